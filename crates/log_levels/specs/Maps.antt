-- The ordered map after updates, as the pairs of key and value by rising key, and its answers.
use Rattle.std.specs.Prelude.{ℕ, ◌-◌, ◌<◌, ◌≤◌, List, [], length, slice_index_or, filter}
use Rattle.std.specs.Prelude.{find, reverse, count_by, Option, Bool, not, nat_le, ◌&&◌}
use Rattle.std.specs.List.{fold}
use Rattle.std.specs.Ordering.{nat_cmp}
use Rattle.std.specs.Map.{lookup, remove_entry}
use Rattle.std.specs.BTreeMap.{insert_entry, is_at}
use Rattle.log_levels.specs.declared.update.Update.{Update}
use Rattle.log_levels.specs.declared.update.Update.TheVariants.{Put, Del, Sweep}

-- low ≤ key ≤ high
abbrev pub is_between : ℕ → ℕ → ℕ → Bool
is_between low high key = nat_le low key && nat_le key high

-- the map after one more update
abbrev pub updated : List (ℕ × ℕ) → Update → List (ℕ × ℕ)
updated map (Put key value) = insert_entry nat_cmp map key value
updated map (Del key) = remove_entry (is_at (nat_cmp key)) map
updated map (Sweep low high) = filter (λ pair. not (is_between low high pair.0)) map

-- the map after updates, of which the first finds it empty
unfoldable pub map_after : List Update → List (ℕ × ℕ)
map_after updates = fold updated [] updates

-- the value at a key, if the map has the key
abbrev pub value_at : List (ℕ × ℕ) → ℕ → Option ℕ
value_at map key = lookup (is_at (nat_cmp key)) map

-- the least key from q on with its value, if there is one
abbrev pub next_from : List (ℕ × ℕ) → ℕ → Option (ℕ × ℕ)
next_from map q = find (λ pair. nat_le q pair.0) map

-- how many keys there are from low to high, both included
abbrev pub count_between : List (ℕ × ℕ) → ℕ → ℕ → ℕ
count_between map low high = count_by (λ pair. is_between low high pair.0) map

-- how many keys a map has, from the least key to the greatest
abbrev pub live_in : List (ℕ × ℕ) → ℕ
live_in pairs = count_between pairs 0 18446744073709551615

-- the greatest key up to q with its value, if there is one
abbrev pub previous_to : List (ℕ × ℕ) → ℕ → Option (ℕ × ℕ)
previous_to map q = find (λ pair. nat_le pair.0 q) (reverse map)

-- the least key with its value, if there is one
abbrev pub first_of : List (ℕ × ℕ) → Option (ℕ × ℕ)
first_of map = next_from map 0

-- the greatest key with its value, if there is one
abbrev pub last_of : List (ℕ × ℕ) → Option (ℕ × ℕ)
last_of map = previous_to map 18446744073709551615

-- the pairs from low to high, both included, by rising key
abbrev pub pairs_between : List (ℕ × ℕ) → ℕ → ℕ → List (ℕ × ℕ)
pairs_between map low high = filter (λ pair. is_between low high pair.0) map

-- the key at this place isn't above the one before it, and each key before is
pub record IsFirstStall (pairs : List (ℕ × ℕ)) (place : ℕ) : Type 0 where
  pub some : 1 ≤ place
  pub inside : place < length pairs
  pub stalls : (slice_index_or pairs place (0, 0)).0 ≤ (slice_index_or pairs (place - 1) (0, 0)).0
  pub before : (k : ℕ) → 1 ≤ k → k < place → (slice_index_or pairs (k - 1) (0, 0)).0 < (slice_index_or pairs k (0, 0)).0

-- each key is above the one before it
abbrev pub AreRising : List (ℕ × ℕ) → Type 0
AreRising pairs =
    (k : ℕ) → 1 ≤ k → k < length pairs → (slice_index_or pairs (k - 1) (0, 0)).0 < (slice_index_or pairs k (0, 0)).0
