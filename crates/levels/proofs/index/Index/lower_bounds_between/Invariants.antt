-- The questions so far, raised to the first key; and then the places
-- of the lanes so far, and the count is none less than theirs.
use Rattle.std.proofs.Common.{◌≡◌, ◌+◌, ◌<◌, ◌≤◌, ℕ, length, slice_index}
use Rattle.std.specs.Prelude.{max}
use Rattle.window_search.specs.Searches.{IsPredecessor}
use Rattle.levels.specs.Indexes.{xs_at}
use Rattle.levels.proofs.index.Index.lower_bounds_between.Given as goal

abbrev pub invariant-loop-lane : goal.invariant-loop-lane
invariant-loop-lane l = record {
  some : 0 < length l.self.keys;
  lanes : length l.asked ≡ 16;
  done : (k : ℕ) → k < l.lane → slice_index l.asked k ≡ max (slice_index l.qs k) l.first;
}

abbrev pub invariant-loop-lane-2 : goal.invariant-loop-lane-2
invariant-loop-lane-2 l = record {
  lanes : length l.lows ≡ 16;
  some : 1 ≤ l.count;
  most : l.count ≤ length (xs_at l.self.keys l.self.levels 1);
  each : (k : ℕ) →
      k < l.lane → (place : ℕ) → IsPredecessor (xs_at l.self.keys l.self.levels 1) (slice_index l.asked k) place →
      (slice_index l.lows k ≤ place) × (place < slice_index l.lows k + l.count);
}
