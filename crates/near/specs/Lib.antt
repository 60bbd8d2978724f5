pub mod Around
pub mod Kept
pub mod Nearest
pub use Rattle.boxes.specs.BoxAnswers
pub use Rattle.boxes.specs.PointCodes
