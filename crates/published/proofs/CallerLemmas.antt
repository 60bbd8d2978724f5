-- What the crates above cite: prefixes of one history.
pub use Rattle.published.proofs.Prefixes.{prefix_self, prefix_trans, prefix_more, prefix_count}
pub use Rattle.published.proofs.Prefixes.{prefix_shorter, prefix_whole, updates_of-append}
pub use Rattle.published.proofs.Prefixes.{updates_of-snoc, count_of-append, count_of-snoc, published-some}
