-- What the crates above cite of boxes, in one place.
pub use Rattle.boxes.proofs.InsideTest.{inside_passes, passes_inside, outside_fails}
