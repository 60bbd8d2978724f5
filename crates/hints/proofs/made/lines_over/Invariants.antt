-- The lines so far are those of the runs before `start`.
use Rattle.std.proofs.Common.{◌≡◌, ◌-◌, ◌≤◌}
use Rattle.exact_cross.specs.PointLists.{points_in}
use Rattle.hulls.specs.Hulls.{room_of, bound_of}
use Rattle.hints.specs.Made.{AreLinesBefore}
use Rattle.hints.proofs.made.lines_over.Given as goal

abbrev pub invariant-loop-start : goal.invariant-loop-start
invariant-loop-start g l = record {
  within : l.start ≤ l.end;
  lines : AreLinesBefore (points_in l.points) l.eps l.start l.lines.items;
  room : l.end ≤ room_of l.hulls;
  bound : bound_of l.hulls ≡ l.eps;
}

abbrev pub decreases-loop-start : goal.decreases-loop-start
decreases-loop-start g l = l.end - l.start
