pub mod Questions
pub mod Mixes
pub mod Readings
pub mod Watching
pub mod ReaderStates
pub mod SenderStates
pub use Rattle.published.specs.Histories
pub use Rattle.senders.specs.Senders
