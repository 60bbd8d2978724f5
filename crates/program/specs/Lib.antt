pub use Rattle.command_line.specs.Words.{AreRefused, AreTaken, AskFor}
pub use Rattle.command_line.specs.Requests.{Request, first_file}
pub mod Statuses
pub mod Files
pub mod Refusals
pub mod RightIndexes
pub mod Inputs
pub mod Stops
pub mod Outcomes
