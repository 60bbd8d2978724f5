-- The numbers before `begun` are at most the question, and those from `begun + left` on are above it.
use Rattle.std.proofs.Common.{◌+◌, ◌-◌, ◌<◌, ◌≤◌, ◌^◌, ℕ, length, slice_index}
use Rattle.window_search.proofs.Halving.{IsHalved}
use Rattle.levels.proofs.runs.begun_in.Given as goal

abbrev pub invariant-loop-left : goal.invariant-loop-left
invariant-loop-left g l = record {
  within : l.begun + l.left ≤ length l.starts;
  few : l.begun + l.left < 2 ^ 32;
  before : (k : ℕ) → k < l.begun → slice_index l.starts k ≤ l.q;
  from : (k : ℕ) → l.begun + l.left ≤ k → k < length l.starts → l.q < slice_index l.starts k;
  halved : IsHalved l.fn.steps l.steps (l.high - l.low + 1) (l.left + 1);
}

abbrev pub decreases-loop-left : goal.decreases-loop-left
decreases-loop-left g l = l.left
