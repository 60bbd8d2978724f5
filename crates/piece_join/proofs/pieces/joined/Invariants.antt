-- The segments so far reach to the place, which is the end of all once all pieces were gone over.
use Rattle.std.proofs.Common.{◌≡◌, ◌+◌, ◌*◌, ◌≤◌, length}
use Rattle.exact_cross.specs.PointLists.{points_in}
use Rattle.hulls.specs.Hulls.{room_of, bound_of}
use Rattle.piece_join.specs.Joined.{IsBegun}
use Rattle.piece_join.proofs.pieces.joined.Given as goal

abbrev pub invariant-loop-number : goal.invariant-loop-number
invariant-loop-number g l = record {
  begun : IsBegun (points_in l.work.points) l.work.eps 0 (length l.work.points.xs.now) l.at l.whole.items;
  within : l.at ≤ length l.work.points.xs.now;
  whole : l.number ≡ length l.work.cuts.now + 1 → l.at ≡ length l.work.points.xs.now;
  room : length l.work.points.xs.now ≤ room_of l.hulls;
  bound : bound_of l.hulls ≡ l.work.eps;
  cost : l.steps ≤ l.fn.steps + 10 * l.at;
}
