-- The greatest difference so far.
use Rattle.std.proofs.Common.{◌≡◌}
use Rattle.near.proofs.Distances.{greatest_apart}
use Rattle.near.proofs.around.distance_from.Given as goal

abbrev pub invariant-loop-c : goal.invariant-loop-c
invariant-loop-c l = l.greatest ≡ greatest_apart l.d l.centre l.z l.c
