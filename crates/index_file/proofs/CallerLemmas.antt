-- What a crate above may cite: any bytes have one reading, points one index, and an index can be saved.
pub use Rattle.index_file.proofs.Readings.{ReadsAs-unique}
pub use Rattle.index_file.proofs.RightLevels.{IsIndexOver-unique, IsFirstDifference-unique}
pub use Rattle.index_file.proofs.BoundedIndex.{IsBounded-from_index}
