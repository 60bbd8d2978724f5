pub mod CallerLemmas
pub mod EntryLemmas
pub mod Order
pub mod PartLemmas
pub mod Progress
pub mod TakingLemmas
