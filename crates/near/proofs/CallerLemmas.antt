-- What the crates above cite of nearest points, in one place.
pub use Rattle.near.proofs.NearestLemmas.{nearest_codes}
pub use Rattle.near.proofs.OneAnswer.{one_boxes, one_nearest}
