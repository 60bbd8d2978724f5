-- No code before the place is inside, where they never fall; each round comes further.
use Rattle.std.proofs.Common.{ℕ, ◌-◌, ◌<◌, ◌≤◌, length, slice_index}
use Rattle.std.specs.List.Sorted.{IsNonDecreasing}
use Rattle.zorder.specs.Regions.{IsInside}
use Rattle.boxes.proofs.places.first_inside.Given as goal

abbrev pub invariant-loop-at : goal.invariant-loop-at
invariant-loop-at l = record {
  within : l.at ≤ length l.codes;
  onwards : l.fn.from ≤ length l.codes → l.fn.from ≤ l.at;
  skipped : IsNonDecreasing l.codes → (j : ℕ) → l.fn.from ≤ j → j < l.at
      → IsInside l.corners.region (slice_index l.codes j) → ⊥;
}

abbrev pub decreases-loop-at : goal.decreases-loop-at
decreases-loop-at l = length l.codes - l.at
