pub mod PlainUpdates
pub mod Replay
pub mod Mix
pub mod MapLines
