-- The entries that updates stand for: a sweep becomes a deletion of each key that it takes away.
use Rattle.std.specs.Prelude.{ℕ, List, [], ◌∷◌, ◌++◌, map, Option, Some, None, ⊤}
use Rattle.std.specs.Map.{keys_of}
use Rattle.tombstones.specs.declared.entry.Entry.{Entry}
use Rattle.log_levels.specs.declared.update.Update.{Update}
use Rattle.log_levels.specs.declared.update.Update.TheVariants.{Put, Del, Sweep}
use Rattle.log_levels.specs.Maps.{pairs_between, updated}

-- the entry that puts a value at a key
abbrev pub put_entry : ℕ → ℕ → Entry
put_entry key value = record { key = key; value = Some value }

-- the entry that deletes a key
abbrev pub del_entry : ℕ → Entry
del_entry key = record { key = key; value = None }

-- the keys of a map from low to high, rising
abbrev pub keys_between : List (ℕ × ℕ) → ℕ → ℕ → List ℕ
keys_between pairs low high = keys_of (pairs_between pairs low high)

-- the entries of an update of this map
abbrev pub entries_for : List (ℕ × ℕ) → Update → List Entry
entries_for pairs (Put key value) = put_entry key value ∷ []
entries_for pairs (Del key) = del_entry key ∷ []
entries_for pairs (Sweep low high) = map del_entry (keys_between pairs low high)

-- the entries of updates of which the first finds this map
unfoldable pub entries_from : List (ℕ × ℕ) → List Update → List Entry
entries_from pairs [] = []
entries_from pairs (update ∷ updates) = entries_for pairs update ++ entries_from (updated pairs update) updates

-- the entries of updates of which the first finds an empty map
abbrev pub entries_of : List Update → List Entry
entries_of updates = entries_from [] updates

-- an update that is one entry, whatever the map: no sweep
abbrev pub IsPlain : Update → Type 0
IsPlain (Put key value) = ⊤
IsPlain (Del key) = ⊤
IsPlain (Sweep low high) = ⊥

-- the deletion of a key that was found, if one was
abbrev pub taking : Option (ℕ × ℕ) → List Update
taking None = []
taking (Some pair) = Del pair.0 ∷ []

-- a put of each of these pairs, in their order
abbrev pub puts_of : List (ℕ × ℕ) → List Update
puts_of pairs = map (λ pair. Put pair.0 pair.1) pairs
