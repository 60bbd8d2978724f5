-- What the crates above cite: the points ascend and are no more than
-- the keys, and what is known of the lower bound between two of them.
pub use Rattle.key_points.proofs.PointOrder.{xs-rise, xs-few, xs-first, ys-length, ys-at, ys-never_fall}
pub use Rattle.key_points.proofs.PointOrder.{ys-first, lb-more, next_of_point, close_of_point, lb-past_points}
pub use Rattle.key_points.proofs.AloneLemmas.{distinct_of-few, distinct_of-alone}
pub use Rattle.key_points.proofs.AloneLemmas.{xs_of-alone, IsStrictlyIncreasing-distinct_of}
pub use Rattle.key_points.proofs.AloneLemmas.{first_of-inner, first_of-last, first_of-alone}
