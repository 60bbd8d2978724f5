use Rattle.std.proofs.Common.{ℕ, ◌-◌, ◌<◌, ◌≤◌, slice_index_or}
use Rattle.log_levels.proofs.load.first_stall.Given as goal

abbrev pub invariant-loop-place : goal.invariant-loop-place
invariant-loop-place l =
    (k : ℕ) → 1 ≤ k → k < l.place → (slice_index_or l.pairs (k - 1) (0, 0)).0 < (slice_index_or l.pairs k (0, 0)).0
