pub mod NextInBox
pub mod NextBetween
pub mod Openings
