-- Interleaved searches of sixteen questions, by their lanes.
use Rattle.std.specs.Prelude.{◌≡◌, ℕ, ◌+◌, ◌<◌, ◌≤◌, List, length, slice_index}
use Rattle.window_search.specs.Searches.{lb, IsPredecessor}

-- the predecessor of q is one of `count` places from its base on
pub record IsAmong (list : List ℕ) (q base count : ℕ) : Type 0 where
  pub within : base + count ≤ length list
  pub found : (place : ℕ) → IsPredecessor list q place → (base ≤ place) × (place < base + count)

-- so is that of each question
pub record AreAmong (list qs bases : List ℕ) (count : ℕ) : Type 0 where
  pub lanes : length bases ≡ 16
  pub each : (k : ℕ) → k < 16 → IsAmong list (slice_index qs k) (slice_index bases k) count

-- the lower bound of q is one of `count` places from its base on
pub record HasBound (list : List ℕ) (q base count : ℕ) : Type 0 where
  pub within : base + count ≤ length list + 1
  pub from : base ≤ lb list q
  pub to : lb list q < base + count

-- so is that of each question
pub record HaveBounds (list qs bases : List ℕ) (count : ℕ) : Type 0 where
  pub lanes : length bases ≡ 16
  pub each : (k : ℕ) → k < 16 → HasBound list (slice_index qs k) (slice_index bases k) count
