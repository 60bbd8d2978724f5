pub mod Levels
pub mod Builders
pub mod Filters
pub mod Words
pub use Rattle.tombstones.specs.Entries
pub use Rattle.levels.specs.Indexes
