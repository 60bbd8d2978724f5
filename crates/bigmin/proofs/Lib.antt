pub mod FillLemmas
pub mod GreaterLemmas
pub mod OpeningLemmas
pub mod PlaceLemmas
pub mod JumpLemmas
