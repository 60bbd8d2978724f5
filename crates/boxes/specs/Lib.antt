pub mod PointCodes
pub mod BoxAnswers
pub mod Places
pub mod Walks
pub use Rattle.bigmin.specs.NextInBox
pub use Rattle.levels.specs.Indexes
pub use Rattle.window_search.specs.Searches
