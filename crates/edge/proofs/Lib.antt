pub mod CallerLemmas
pub mod FileLemmas
pub mod Parts
pub mod ReaderLemmas
