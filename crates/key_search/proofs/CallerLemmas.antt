-- What the crates above cite: a write to one lane, questions that
-- are raised to the first key, and a block of questions more.
pub use Rattle.key_search.proofs.LaneLemmas.{lane_done, lane_rest, lb-raised, HasBound-raised}
pub use Rattle.key_search.proofs.LaneLemmas.{block_positions, split_more, split_left}
