pub mod LeastLemmas
pub mod Runs
pub mod Stretched
pub mod SegmentsExist
pub mod WholeLemmas
