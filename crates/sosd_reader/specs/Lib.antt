pub mod NumberFiles
pub mod FileFaults
pub mod KeyFiles
pub mod KeyFileFaults
pub mod PointFiles
pub mod Reading
pub use Rattle.zorder.specs.Codes
