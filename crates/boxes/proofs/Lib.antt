pub mod Counting
pub mod InsideTest
pub mod Fronts
pub mod LookedLemmas
pub mod OrderedCorners
mod CellLemmas
mod PlaceLemmas
pub mod CodeLists
pub mod OneCount
pub mod CallerLemmas
