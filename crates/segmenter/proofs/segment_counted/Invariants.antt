-- The segments so far are those of from..start.
use Rattle.std.proofs.Common.{◌≡◌, ◌-◌, ◌+◌, ◌*◌, ◌≤◌}
use Rattle.exact_cross.specs.PointLists.{points_in}
use Rattle.hulls.specs.Hulls.{room_of, bound_of}
use Rattle.segmenter.proofs.LeastLemmas.{AreSegments}
use Rattle.segmenter.proofs.segment_counted.Given as goal

abbrev pub invariant-loop-start : goal.invariant-loop-start
invariant-loop-start g l = record {
  within : l.start ≤ l.to;
  from_first : l.from ≤ l.start;
  segments : AreSegments (points_in l.points) l.eps l.from l.to l.start l.segments.items;
  cost : l.steps + 10 * l.from ≤ l.fn.steps + 2 * (l.to - l.from) + 10 * l.start;
  room : l.to ≤ l.from + room_of l.hulls;
  bound : bound_of l.hulls ≡ l.eps;
}

abbrev pub decreases-loop-start : goal.decreases-loop-start
decreases-loop-start g l = l.to - l.start
