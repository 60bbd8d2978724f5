-- The lanes so far have their places, and the others their runs.
use Rattle.std.proofs.Common.{◌≡◌, ◌+◌, ◌<◌, ◌≤◌, ℕ, length, slice_index}
use Rattle.window_search.specs.Searches.{IsPredecessor}
use Rattle.levels.specs.Indexes.{xs_at}
use Rattle.key_search.specs.Interleaved.{IsAmong}
use Rattle.levels.proofs.index.Index.runs_below.Given as goal

abbrev pub invariant-loop-lane : goal.invariant-loop-lane
invariant-loop-lane l = record {
  lanes : length l.runs ≡ 16;
  done : (k : ℕ) → k < l.lane →
      IsAmong (xs_at l.self.keys l.self.levels l.level) (slice_index l.qs k) (slice_index l.runs k) l.count;
  rest : (k : ℕ) → l.lane ≤ k → k < 16 →
      IsPredecessor (xs_at l.self.keys l.self.levels (l.level + 1)) (slice_index l.qs k) (slice_index l.runs k);
}
