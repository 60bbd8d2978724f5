pub mod Histories
pub mod Writers
pub mod Doors
pub mod Books
pub mod Rules
pub use Rattle.log_levels.specs.Maps
pub use Rattle.log_levels.specs.Accepted
pub use Rattle.edge.specs.Risen
