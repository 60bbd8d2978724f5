-- The codes up to the place lie between, and each round comes further.
use Rattle.std.proofs.Common.{ℕ, ◌-◌, ◌<◌, ◌≤◌, length, slice_index}
use Rattle.std.specs.List.Sorted.{IsNonDecreasing}
use Rattle.zorder.specs.Dilated.{IsBetween}
use Rattle.boxes.proofs.walk.between_until.Given as goal

abbrev pub invariant-loop-place : goal.invariant-loop-place
invariant-loop-place l = record {
  onwards : l.fn.at ≤ l.place;
  within : l.place ≤ length l.codes;
  between : IsNonDecreasing l.codes →
      (j : ℕ) → l.fn.at ≤ j → j < l.place → IsBetween l.d l.low l.high (slice_index l.codes j);
}

abbrev pub decreases-loop-place : goal.decreases-loop-place
decreases-loop-place l = length l.codes - l.place
