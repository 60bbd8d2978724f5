pub mod Begun
pub mod CutLemmas
pub mod DrawLemmas
pub mod PlaceLemmas
pub mod RelaxedLemmas
