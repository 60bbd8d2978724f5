pub mod Totals
pub mod Steps
pub mod Gathered
pub mod CallerLemmas
