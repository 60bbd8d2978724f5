pub mod WatchingLemmas
pub mod BatchLemmas
pub mod DealLemmas
pub mod PlaceLemmas
pub mod MixLemmas
