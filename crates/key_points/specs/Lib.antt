pub mod KeyPoints
pub mod Shown
pub mod Groups
pub mod Falls
pub use Rattle.window_search.specs.Searches
