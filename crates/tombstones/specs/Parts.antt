-- Lists that are cut at the same keys, to be merged part by part. No public clause cites it.
use Rattle.std.specs.Prelude.{◌≡◌, ℕ, ◌+◌, ◌*◌, ◌/◌, ◌<◌, ◌≤◌, ◌==◌, nat_lt, Bool, if◌then◌else◌}
use Rattle.std.specs.Prelude.{List, ◌++◌, length, slice_index_or, Option, Some, None, ⊤}
use Rattle.std.specs.List.{All}
use Rattle.tombstones.specs.declared.entry.Entry.{Entry}
use Rattle.tombstones.specs.Entries.{IsAscending, entry_at, winner_at, kept}

-- the key is below the edge; none is an edge above all keys
abbrev pub IsBelow : ℕ → Option ℕ → Type 0
IsBelow key None = ⊤
IsBelow key (Some edge) = key < edge

-- the key is the edge or above it
abbrev pub IsFrom : ℕ → Option ℕ → Type 0
IsFrom key None = ⊥
IsFrom key (Some edge) = edge ≤ key

-- the entries, cut at the edge
pub record IsCutAt (edge : Option ℕ) (entries first second : List Entry) : Type 0 where
  pub whole : entries ≡ first ++ second
  pub below : All (λ entry. IsBelow entry.key edge) first
  pub from : All (λ entry. IsFrom entry.key edge) second

-- a list has what the whole has at the keys from one edge to below another, and nothing at other keys
pub record IsBetween (low high : Option ℕ) (whole : ℕ → Option Entry) (entries : List Entry) : Type 0 where
  pub ascending : IsAscending entries
  pub inside : (key : ℕ) → IsFrom key low → IsBelow key high → entry_at entries key ≡ whole key
  pub before : (key : ℕ) → IsBelow key low → entry_at entries key ≡ None
  pub behind : (key : ℕ) → IsFrom key high → entry_at entries key ≡ None

-- the merge of two lists, by key
abbrev pub merged_at : List Entry → List Entry → Bool → ℕ → Option Entry
merged_at newer older deepest key = kept deepest (winner_at newer older key)

-- what a read past the end gives
abbrev pub no_entry : Entry
no_entry = record { key = 0; value = None }

-- the key at a place
abbrev pub key_at : List Entry → ℕ → ℕ
key_at entries place = (slice_index_or entries place no_entry).key

-- the edge before part i of `parts`: the key of the entry at an even place,
-- but that 0 is before the first part, and no key behind the last one
abbrev pub edge_of : List Entry → ℕ → ℕ → Option ℕ
edge_of entries parts i =
    if i == 0 then Some 0 else if nat_lt i parts then Some (key_at entries (i * (length entries / parts))) else None

-- the longer of two lists, the newer one where they are as long
abbrev pub longer_of : List Entry → List Entry → List Entry
longer_of newer older = if nat_lt (length newer) (length older) then older else newer

-- the merge of what two lists have in part i of `parts`
abbrev pub IsMergedPart : List Entry → List Entry → Bool → ℕ → ℕ → List Entry → Type 0
IsMergedPart newer older deepest parts i merged = IsBetween (edge_of (longer_of newer older) parts i)
    (edge_of (longer_of newer older) parts (i + 1)) (merged_at newer older deepest) merged
