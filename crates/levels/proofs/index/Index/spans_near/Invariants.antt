-- The lanes so far have their places, and the count is none less than theirs.
use Rattle.std.proofs.Common.{◌≡◌, ◌+◌, ◌<◌, ◌≤◌, ℕ, length, slice_index}
use Rattle.window_search.specs.Searches.{IsPredecessor}
use Rattle.levels.specs.Indexes.{xs_at}
use Rattle.levels.proofs.index.Index.spans_near.Given as goal

abbrev pub invariant-loop-lane : goal.invariant-loop-lane
invariant-loop-lane l = record {
  lanes : length l.lows ≡ 16;
  some : 1 ≤ l.count;
  most : l.count ≤ length (xs_at l.self.keys l.self.levels 1);
  each : (k : ℕ) →
      k < l.lane → (place : ℕ) → IsPredecessor (xs_at l.self.keys l.self.levels 1) (slice_index l.qs k) place →
      (slice_index l.lows k ≤ place) × (place < slice_index l.lows k + l.count);
}
