pub use Rattle.clap.specs.Words.{Text, Row, Rule, Shape, App, fault_of, subcommand_of, one_of}
pub mod Application
pub mod Requests
pub mod Commands
pub mod Words
pub mod Passed
