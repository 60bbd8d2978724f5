pub mod BitLemmas
pub mod BitOrder
pub mod CallerLemmas
pub mod CodeLemmas
mod ColumnLemmas
pub mod DilatedLemmas
pub mod GatherLemmas
mod LaneLemmas
pub mod Masks
pub mod PlaceMasks
pub mod RegionLemmas
mod SideLemmas
pub mod SpreadLemmas
mod ThirdLemmas
mod TripleLemmas
