-- Entry lists, and what a merge of two is, by the entry at each key.
-- Sources: Bentley and Saxe, 1980 (lists of doubling size, merged); O'Neil, Cheng, Gawlick and O'Neil, 1996 (an entry
-- that marks a deleted key, here a tombstone, stays until no older list is left below).
use Rattle.std.specs.Prelude.{◌≡◌, ℕ, ◌<◌, ◌==◌, Bool, if◌then◌else◌, List, Option, Some, None, is_some, find}
use Rattle.std.specs.List.{AllPairs}
use Rattle.std.specs.Option.{option_or}
use Rattle.tombstones.specs.declared.entry.Entry.{Entry}

-- the keys rise strictly, so no key comes twice
abbrev pub IsAscending : List Entry → Type 0
IsAscending entries = AllPairs (λ x y. x.key < y.key) entries

-- the entry of a list at a key, if it has one
abbrev pub entry_at : List Entry → ℕ → Option Entry
entry_at entries key = find (λ entry. entry.key == key) entries

-- of two lists' entries at a key the newer's, where there is one, else the older's
abbrev pub winner_at : List Entry → List Entry → ℕ → Option Entry
winner_at newer older key = option_or (entry_at newer key) (entry_at older key)

-- the entry, unless it is a tombstone, which is an entry without a value
abbrev pub with_value : Option Entry → Option Entry
with_value None = None
with_value (Some entry) = if is_some entry.value then Some entry else None

-- what a merge keeps of a key's winner: all, but in the deepest level no tombstone
abbrev pub kept : Bool → Option Entry → Option Entry
kept deepest winner = if deepest then with_value winner else winner

-- the merge of two lists: at each key, also one that is in neither, it has what it keeps of the winner
pub record IsMerge (newer older : List Entry) (deepest : Bool) (merged : List Entry) : Type 0 where
  pub ascending : IsAscending merged
  pub winners : (key : ℕ) → entry_at merged key ≡ kept deepest (winner_at newer older key)
