pub mod Candidates
pub mod Tables
pub use Rattle.window_search.specs.Searches
