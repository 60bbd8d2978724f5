pub mod Slopes
pub mod Vertices
pub mod Hull
pub mod Hulls
pub mod FlatLines
