pub mod LaneLemmas
pub mod CallerLemmas
