pub mod Around
pub mod Chosen
pub mod Metrics
pub mod Neighbours
