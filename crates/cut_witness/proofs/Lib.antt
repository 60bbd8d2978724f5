pub mod ShownRuns
pub mod Sides
pub mod Gaps
pub mod PairGaps
