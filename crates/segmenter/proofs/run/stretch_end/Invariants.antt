-- So far all places are at even steps.
use Rattle.std.proofs.Common.{slice_index, ◌≡◌, ℕ, ◌+◌, ◌*◌, ◌-◌, ◌<◌, ◌≤◌}
use Rattle.segmenter.proofs.run.stretch_end.Given as goal

abbrev pub invariant-loop-end : goal.invariant-loop-end
invariant-loop-end l = record {
  further : l.from < l.end;
  within : l.end < l.to;
  x : (k : ℕ) → l.from ≤ k →
      k ≤ l.end → slice_index l.points.xs.now k ≡ slice_index l.points.xs.now l.from + (k - l.from) * l.step;
  y : (k : ℕ) → l.from ≤ k →
      k ≤ l.end → slice_index l.points.ys.now k ≡ slice_index l.points.ys.now l.from + (k - l.from) * l.climb;
}

abbrev pub decreases-loop-end : goal.decreases-loop-end
decreases-loop-end l = l.to - l.end
