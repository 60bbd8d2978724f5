pub mod Batches
pub use Rattle.published.specs.Histories
