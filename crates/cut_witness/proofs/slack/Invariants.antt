use Rattle.std.proofs.Common.{◌≡◌, ◌+◌, ◌≤◌, length, drop}
use Rattle.exact_cross.specs.PointLists.{points_in}
use Rattle.exact_cross.specs.Covers.{run_end}
use Rattle.exact_cross.specs.Segments.{starts_of, EachRun}
use Rattle.exact_cross.specs.Checked.{uncut}
use Rattle.cut_witness.specs.Runs.{IsShownRun}
use Rattle.cut_witness.proofs.slack.Given as goal

-- the runs from the place `i` on are shown, the first of them
-- begins at `end`, and so many have no cut, each of a place or more
abbrev pub invariant-loop-i : goal.invariant-loop-i
invariant-loop-i l = record {
  within : l.uncut + l.end ≤ length l.points.xs.now;
  end : l.end ≡ run_end (starts_of (drop l.i l.segments)) (length l.points.xs.now);
  shown : EachRun
      (IsShownRun (points_in l.points) l.eps (length l.points.xs.now)) (length l.points.xs.now) (drop l.i l.segments);
  uncut : l.uncut ≡ uncut (drop l.i l.segments);
}
