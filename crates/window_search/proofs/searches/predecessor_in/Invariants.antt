use Rattle.std.proofs.Common.{ℕ, ◌+◌, ◌-◌, ◌<◌, ◌≤◌, length}
use Rattle.window_search.specs.Searches.{IsPredecessor}
use Rattle.window_search.proofs.Halving.{IsHalved}
use Rattle.window_search.proofs.searches.predecessor_in.Given as goal

-- the predecessor is one of the `count` places from `base` on, which are places of the list
abbrev pub invariant-loop-count : goal.invariant-loop-count
invariant-loop-count g l = record {
  some : 1 ≤ l.count;
  within : l.base + l.count ≤ length l.keys;
  first : l.lo ≤ l.base;
  found : (place : ℕ) → IsPredecessor l.keys l.q place → (l.base ≤ place) × (place < l.base + l.count);
  halved : IsHalved l.fn.steps l.steps (l.hi - l.lo + 1) l.count;
}

abbrev pub decreases-loop-count : goal.decreases-loop-count
decreases-loop-count g l = l.count
