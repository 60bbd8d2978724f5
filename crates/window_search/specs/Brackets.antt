-- The place of a question in any list of keys, whether they are sorted or not, and what the search for it reads.
use Rattle.std.specs.Prelude.{◌≡◌, ℕ, ◌+◌, ◌-◌, ◌*◌, ◌^◌, ◌<◌, ◌≤◌, List, length, slice_index}
use Rattle.std.specs.Int.{abs_diff}

-- the key before the place is below q, and the key at the place isn't, where there are such keys
pub record IsBracket (keys : List ℕ) (q place : ℕ) : Type 0 where
  pub within : place ≤ length keys
  pub before : 0 < place → slice_index keys (place - 1) < q
  pub at : place < length keys → q ≤ slice_index keys place

-- the key before the place `low` is below q, and the key at the
-- place `high` isn't: a bracket is among the places low ..= high
pub record HoldsBracket (keys : List ℕ) (q low high : ℕ) : Type 0 where
  pub order : low ≤ high
  pub within : high ≤ length keys
  pub before : 0 < low → slice_index keys (low - 1) < q
  pub at : high < length keys → q ≤ slice_index keys high

-- from `before` to `after` t steps were taken, with 2 ^ t at most `each` times (far + 1) ^ 2
abbrev pub ReadsWithin : ℕ → ℕ → ℕ → ℕ → Type 0
ReadsWithin each far before after = (t : ℕ) × (after ≡ before + t) × (2 ^ t ≤ each * (far + 1) ^ 2)

-- the same, by how far the place is from `hint`
abbrev pub ReadsNear : ℕ → ℕ → ℕ → ℕ → Type 0
ReadsNear hint place before after = ReadsWithin 8 (abs_diff hint place) before after

-- from `hint` away by steps that double to the places low ..= high: at most `reach` of them,
-- each at least reach - 1 from the hint, in t steps with 2 ^ t at most `each` times reach
pub record IsReached (each hint low high before after : ℕ) : Type 0 where
  pub reach : ℕ
  pub t : ℕ
  pub taken : after ≡ before + t
  pub cost : 2 ^ t ≤ each * reach
  pub few : high < low + reach
  pub far : (place : ℕ) → low ≤ place → place ≤ high → reach ≤ abs_diff hint place + 1
