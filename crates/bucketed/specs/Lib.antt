pub mod Tables
pub use Rattle.levels.specs.Indexes
pub use Rattle.levels.specs.Costs
pub use Rattle.window_search.specs.Searches
