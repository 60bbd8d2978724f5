pub mod LevelLemmas
pub mod LastLemmas
pub mod FilterLemmas
pub mod PutLemmas
pub mod WordLemmas
