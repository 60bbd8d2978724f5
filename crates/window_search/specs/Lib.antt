pub mod Brackets
pub mod Windows
pub mod Searches
