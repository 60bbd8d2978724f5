-- The places so far.
use Rattle.std.proofs.Common.{◌≡◌}
use Rattle.exact_cross.specs.Points.{places}
use Rattle.key_points.proofs.placed.places_of.Given as goal

abbrev pub invariant-loop-place : goal.invariant-loop-place
invariant-loop-place l = l.list.items ≡ places l.place
