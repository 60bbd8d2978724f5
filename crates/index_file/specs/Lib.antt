pub mod Spelling
pub mod Spelled
pub mod Stops
pub mod Faults
pub mod Checks
pub mod Judged
