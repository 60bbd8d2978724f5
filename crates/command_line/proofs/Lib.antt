pub mod Getters
pub mod PassedRows
pub mod OptionReads
pub mod TakenWords
