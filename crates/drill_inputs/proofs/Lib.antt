pub mod DrawLemmas
pub mod InputLemmas
pub mod ListLemmas
pub mod LiveLemmas
