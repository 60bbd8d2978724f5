pub mod Maps
pub mod Accepted
pub mod Shapes
pub mod Refusals
pub mod Kept
pub use Rattle.tombstones.specs.Entries
pub use Rattle.levels.specs.Indexes
pub use Rattle.map_level.specs.Levels
