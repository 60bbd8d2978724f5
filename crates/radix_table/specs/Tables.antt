-- A table that leads a search in rising numbers to few places: how many of them stand before each of many steps.
-- Source: A. Kipf et al., RadixSpline: a single-pass learned index, aiDM 2020 (its radix table).
use Rattle.std.specs.Prelude.{◌≡◌, ℕ, ◌+◌, ◌-◌, ◌*◌, ◌/◌, ◌^◌, ◌<◌, ◌≤◌, List, length, map, max, slice_index}
use Rattle.std.specs.Int.Count.{count_leading_zeros}
use Rattle.window_search.specs.Searches.{lb, IsPredecessor}
use Rattle.radix_table.specs.declared.scale.Scale.{Scale}

-- how many binary places a number of 64 bits has
abbrev pub places_of : ℕ → ℕ
places_of d = 64 - count_leading_zeros 64 d

-- how many of a distance's lowest binary places are dropped: so
-- many that no more than `kept` are left, and at least `shift`
abbrev pub dropped_of : ℕ → ℕ → ℕ → ℕ
dropped_of shift kept d = max shift (places_of d - kept)

-- the step of a distance that loses so many places: 2 ^ (kept - 1) steps come before for each place more than `shift`
abbrev pub step_with : ℕ → ℕ → ℕ → ℕ → ℕ
step_with shift kept d dropped = (dropped - shift) * 2 ^ (kept - 1) + d / 2 ^ dropped

-- the step of x: by its distance from the first number
abbrev pub step_of : Scale → ℕ → ℕ
step_of scale x =
    step_with scale.shift scale.kept (x - scale.first) (dropped_of scale.shift scale.kept (x - scale.first))

-- a scale that numbers of 64 bits can be cut by
pub record IsScale (scale : Scale) : Type 0 where
  pub short : scale.shift < 64
  pub some : 1 ≤ scale.kept
  pub all : scale.kept ≤ 64

-- a table: how the numbers' range is cut into steps, and its entries
pub record RadixEntries : Type 0 where
  pub scale : Scale
  pub entries : List ℕ

-- entry h is how many of the numbers stand in steps below h; the last entry is how many there are
pub record AreCounts (step : ℕ → ℕ) (xs entries : List ℕ) : Type 0 where
  pub each : (h : ℕ) → h < length entries → slice_index entries h ≡ lb (map step xs) h
  pub all : (h : ℕ) → h + 1 ≡ length entries → slice_index entries h ≡ length xs

-- a list made longer to so many entries, the new ones all the same number; one that has as many stays
pub record IsFilledTo (to number : ℕ) (entries more : List ℕ) : Type 0 where
  pub before : (k : ℕ) → k < length entries → slice_index more k ≡ slice_index entries k
  pub added : (k : ℕ) → length entries ≤ k → k < to → slice_index more k ≡ number
  pub grown : length entries ≤ to → length more ≡ to
  pub full : to ≤ length entries → length more ≡ length entries

-- no step has more than so many numbers
abbrev pub HasAtMost : ℕ → List ℕ → Type 0
HasAtMost most entries = (h : ℕ) → h + 1 < length entries → slice_index entries (h + 1) - slice_index entries h ≤ most

-- the table of these numbers; twice the places that a step leaves open are at most `most`
pub record IsTableOf (xs : List ℕ) (most : ℕ) (table : RadixEntries) : Type 0 where
  pub scale : IsScale table.scale
  pub counts : AreCounts (step_of table.scale) xs table.entries
  pub narrow : (h : ℕ) →
      h + 1 < length table.entries → 2 * (slice_index table.entries (h + 1) - slice_index table.entries h + 1) ≤ most

-- at least `low` and at most `high` of the numbers are at most q, those in front
pub record IsBetween (xs : List ℕ) (q low high : ℕ) : Type 0 where
  pub begins : low ≤ length xs
  pub within : high ≤ length xs
  pub before : (k : ℕ) → k < low → slice_index xs k ≤ q
  pub from : (k : ℕ) → high ≤ k → k < length xs → q < slice_index xs k

-- the places low ..= high hold the predecessor of q, if there is one, and twice their number is at most `most`
pub record IsLedTo (xs : List ℕ) (q most low high : ℕ) : Type 0 where
  pub within : 0 < length xs → high < length xs
  pub holds : (place : ℕ) → IsPredecessor xs q place → (low ≤ place) × (place ≤ high)
  pub narrow : 2 * (high - low + 1) ≤ most
