-- The coordinates below c lie between their low and their high.
use Rattle.std.proofs.Common.{ℕ, ◌<◌, ◌≤◌, slice_index}
use Rattle.zorder.proofs.regions.inside.Given as goal

abbrev pub invariant-loop-c : goal.invariant-loop-c
invariant-loop-c l =
    (k : ℕ) → k < l.c →
    (slice_index l.region.low k ≤ slice_index l.coords k) × (slice_index l.coords k ≤ slice_index l.region.high k)
