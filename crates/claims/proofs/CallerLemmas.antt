-- What the crates above cite: which numbers are below a bound, and that none is left once a seat has ended.
pub use Rattle.claims.proofs.Steps.{once-yes, once-no}
pub use Rattle.claims.proofs.Gathered.{all_drawn-from_ended}
