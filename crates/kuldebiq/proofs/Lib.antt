pub mod Values
pub mod Crossing
pub mod IndexHandles
pub mod HintsHandles
pub mod MapHandles
pub mod Judged
pub mod PairLemmas
pub mod Ranges
pub mod Blocks
pub mod ManyValues
pub mod Applied
pub mod Ends
mod PastLemmas
pub mod NearestPlaces
