pub mod Codes
pub mod Columns
pub mod Dilated
pub mod Points
pub mod Regions
pub mod Spread
pub mod Triples
