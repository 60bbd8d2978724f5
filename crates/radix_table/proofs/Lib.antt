pub mod ScaleLemmas
pub mod CountLemmas
