pub mod Finders
pub mod Pieces
pub mod Tasks
pub mod Texts
