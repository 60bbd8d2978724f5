pub mod Interleaved
pub use Rattle.window_search.specs.Searches
