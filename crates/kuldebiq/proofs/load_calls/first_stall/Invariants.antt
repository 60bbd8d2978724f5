-- Each key so far is above the one before it.
use Rattle.std.proofs.Common.{ℕ, ◌-◌, ◌<◌, ◌≤◌, slice_index_or}
use Rattle.kuldebiq.specs.Pairs.{tuples_of}
use Rattle.kuldebiq.proofs.load_calls.first_stall.Given as goal

abbrev pub invariant-loop-place : goal.invariant-loop-place
invariant-loop-place l = (k : ℕ) → 1 ≤ k → k < l.place →
    (slice_index_or (tuples_of l.pairs) (k - 1) (0, 0)).0 < (slice_index_or (tuples_of l.pairs) k (0, 0)).0
