-- The hulls stand for the run so far, at 10 steps for each place after the first, less those that are spare.
use Rattle.std.proofs.Common.{◌≡◌, ◌-◌, ◌+◌, ◌*◌, ◌<◌, ◌≤◌}
use Rattle.exact_cross.specs.PointLists.{points_in}
use Rattle.hulls.specs.Hulls.{room_of, bound_of, spare, StandsFor}
use Rattle.segmenter.proofs.run.longest_run.Given as goal

abbrev pub invariant-loop-last : goal.invariant-loop-last
invariant-loop-last g l = record {
  onward : l.start ≤ l.last;
  within : l.last < l.to;
  stands : StandsFor l.hulls (points_in l.points) (bound_of l.fn.hulls) l.start (l.last + 1);
  cost : l.steps + spare l.hulls + 10 * l.start ≤ l.fn.steps + 10 * l.last;
  room : room_of l.fn.hulls ≤ room_of l.hulls;
  bound : bound_of l.hulls ≡ bound_of l.fn.hulls;
}

abbrev pub decreases-loop-last : goal.decreases-loop-last
decreases-loop-last g l = l.to - l.last
