-- What a search in a list of keys that never falls looks for.
use Rattle.std.specs.Prelude.{◌≡◌, ℕ, ◌+◌, ◌*◌, ◌^◌, ◌<◌, ◌≤◌, List, length, slice_index, count_by, nat_lt}

-- the lower bound of q: how many of the keys are below q
abbrev pub lb : List ℕ → ℕ → ℕ
lb keys q = count_by (λ key. nat_lt key q) keys

-- the predecessor of q: the last place whose key is at most q
pub record IsPredecessor (keys : List ℕ) (q place : ℕ) : Type 0 where
  pub inside : place < length keys
  pub at_most : slice_index keys place ≤ q
  pub last : (j : ℕ) → place < j → j < length keys → q < slice_index keys j

-- from `before` to `after` t steps were taken, with 2 ^ t at most twice the number of places
abbrev pub HalvesPlaces : ℕ → ℕ → ℕ → Type 0
HalvesPlaces before after places = (t : ℕ) × (after ≡ before + t) × (2 ^ t ≤ 2 * places)
