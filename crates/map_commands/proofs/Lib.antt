pub mod PlainLemmas
pub mod MapLineLemmas
