pub mod TextLines
pub mod Handing
pub mod Writing
pub mod InTurn
