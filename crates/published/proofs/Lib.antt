pub mod Prefixes
pub mod Adding
pub mod OnlyGrows
pub mod RefusalLemmas
pub mod CallerLemmas
