-- Interleaved lookups of sixteen questions, by their lanes.
use Rattle.std.specs.Prelude.{◌≡◌, ℕ, ◌+◌, ◌<◌, ◌≤◌, List, length, slice_index}
use Rattle.window_search.specs.Searches.{IsPredecessor}

-- each run is the predecessor of its question among the first x of runs
pub record AreRuns (firsts qs runs : List ℕ) : Type 0 where
  pub lanes : length runs ≡ 16
  pub each : (k : ℕ) → k < 16 → IsPredecessor firsts (slice_index qs k) (slice_index runs k)

-- the predecessor of each question, if there is one, is one of
-- `count` places from its low end on, and there are as many
pub record AreNear (list qs lows : List ℕ) (count : ℕ) : Type 0 where
  pub some : 1 ≤ count
  pub most : count ≤ length list
  pub each : (k : ℕ) → k < 16 → (place : ℕ) →
      IsPredecessor list (slice_index qs k) place → (slice_index lows k ≤ place) × (place < slice_index lows k + count)

-- no question is below the first key
abbrev pub AreFromFirst : (keys qs : List ℕ) → Type 0
AreFromFirst keys qs = (k : ℕ) → k < 16 → slice_index keys 0 ≤ slice_index qs k
