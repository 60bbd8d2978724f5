-- The segments so far reach to the place, and the hulls keep their room and their bound.
use Rattle.std.proofs.Common.{◌≡◌, ◌+◌, ◌-◌, ◌*◌, ◌≤◌}
use Rattle.exact_cross.specs.PointLists.{points_in}
use Rattle.hulls.specs.Hulls.{room_of, bound_of}
use Rattle.piece_join.specs.Joined.{IsBegun}
use Rattle.piece_join.proofs.joining.go_on.Given as goal

abbrev pub invariant-loop-at : goal.invariant-loop-at
invariant-loop-at g l = record {
  begun : IsBegun (points_in l.points) (bound_of l.fn.hulls) 0 l.to l.at l.joined.items;
  within : l.at ≤ l.to;
  room : room_of l.fn.hulls ≤ room_of l.hulls;
  bound : bound_of l.hulls ≡ bound_of l.fn.hulls;
  cost : l.steps + 10 * l.fn.at ≤ l.fn.steps + 10 * l.at;
}

abbrev pub decreases-loop-at : goal.decreases-loop-at
decreases-loop-at g l = l.to - l.at
