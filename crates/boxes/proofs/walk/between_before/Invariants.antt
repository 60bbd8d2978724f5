-- The codes up to the place lie between.
use Rattle.std.proofs.Common.{ℕ, ◌<◌, ◌≤◌, slice_index}
use Rattle.zorder.specs.Dilated.{IsBetween}
use Rattle.boxes.proofs.walk.between_before.Given as goal

abbrev pub invariant-loop-place : goal.invariant-loop-place
invariant-loop-place l = (j : ℕ) → l.at ≤ j → j < l.place → IsBetween l.d l.low l.high (slice_index l.codes j)
