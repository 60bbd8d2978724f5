pub mod CallerLemmas
pub mod Halving
pub mod LowerBounds
pub mod Reaching
pub mod WindowLemmas
