-- The places so far are looked at, and each step takes one that was left.
use Rattle.std.proofs.Common.{◌≡◌, ◌-◌, ◌+◌, ◌≤◌}
use Rattle.exact_cross.specs.PointLists.{points_in}
use Rattle.segmenter.specs.Whole.{AreExtremes}
use Rattle.segmenter.proofs.whole.Extremes.go_over.Given as goal

abbrev pub invariant-loop-at : goal.invariant-loop-at
invariant-loop-at g l = record {
  from_first : l.from ≤ l.at;
  within : l.at ≤ l.to;
  so_far : AreExtremes (points_in l.points) l.from l.to l.at l.self;
  line : l.self.line ≡ l.fn.self.line;
  cost : l.steps + l.self.left ≡ l.fn.steps + l.fn.self.left;
}

abbrev pub decreases-loop-at : goal.decreases-loop-at
decreases-loop-at g l = l.to - l.at
