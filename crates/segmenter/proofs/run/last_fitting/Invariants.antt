-- Some line fits up to `fitting` and none up to `refused`; each test so far has doubled
-- the way from `from`, or else, after the first refusal, has brought the two nearer.
use Rattle.std.proofs.Common.{◌⊎◌, ℕ, ◌+◌, ◌*◌, ◌-◌, ◌<◌, ◌≤◌}
use Rattle.exact_cross.specs.PointLists.{points_in}
use Rattle.exact_cross.specs.Lines.{SomeLineFits}
use Rattle.hulls.specs.Hulls.{bound_of}
use Rattle.segmenter.specs.Stretches.{IsInStretch}
use Rattle.segmenter.proofs.run.last_fitting.Given as goal

abbrev pub invariant-loop-fitting : goal.invariant-loop-fitting
invariant-loop-fitting g l = record {
  onward : l.from ≤ l.fitting;
  apart : l.fitting < l.refused;
  within : l.refused ≤ l.end;
  fits : (s : ℕ) → IsInStretch l.hulls (points_in l.points) (bound_of l.hulls) s l.from l.end →
      SomeLineFits (points_in l.points) (bound_of l.hulls) s (l.fitting + 1);
  fits_not : (s : ℕ) → IsInStretch l.hulls (points_in l.points) (bound_of l.hulls) s l.from l.end →
      SomeLineFits (points_in l.points) (bound_of l.hulls) s (l.refused + 1) → ⊥;
  cost : (l.steps + 2 * l.from ≤ l.fn.steps + 2 * l.fitting)
      ⊎ (l.steps + 2 * (l.refused - l.fitting) + 4 * l.from ≤ l.fn.steps + 4 * l.fitting + 4);
}

abbrev pub decreases-loop-fitting : goal.decreases-loop-fitting
decreases-loop-fitting g l = l.refused - l.fitting
