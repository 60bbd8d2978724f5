-- The places so far are looked at, and each step takes one that was left.
use Rattle.std.proofs.Common.{◌≡◌, ℕ, ◌+◌, ◌*◌, ◌≤◌}
use Rattle.exact_cross.specs.PointLists.{points_in}
use Rattle.segmenter.specs.Whole.{AreExtremes}
use Rattle.segmenter.proofs.whole.Extremes.pass_part.Given as goal

abbrev pub invariant-loop-place : goal.invariant-loop-place
invariant-loop-place g l = record {
  so_far : (s e : ℕ) → s ≤ l.from → l.to ≤ e → AreExtremes (points_in l.points) s e l.from l.fn.self →
      AreExtremes (points_in l.points) s e l.place l.self;
  line : l.self.line ≡ l.fn.self.line;
  left : 2 * l.to ≤ 2 * l.place + l.self.left;
  cost : l.steps + l.self.left ≡ l.fn.steps + l.fn.self.left;
}
