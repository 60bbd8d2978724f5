pub mod LineLemmas
pub mod LookupLemmas
mod ManyLemmas
mod RoundedLemmas
mod MiddleLemmas
mod LeadLemmas
mod KeyLemmas
mod HintLemmas
mod RunLemmas
