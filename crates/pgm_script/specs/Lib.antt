pub mod Words
pub mod Commands
pub mod Scripts
pub mod Verbs
pub mod Texts
pub mod Cuts
pub mod Plain
