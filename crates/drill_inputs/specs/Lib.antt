pub mod Draws
pub mod Inputs
pub use Rattle.log_levels.specs.Accepted
pub use Rattle.zorder.specs.Points
pub use Rattle.zorder.specs.Regions
