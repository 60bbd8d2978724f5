pub mod DistinctLemmas
pub mod GroupLemmas
pub mod AloneLemmas
pub mod Rows
pub mod PointOrder
pub mod Heights
pub mod CallerLemmas
