-- A level of the map: entries by rising key, the last of each key, with the index of the keys.
use Rattle.std.specs.Prelude.{◌≡◌, ℕ, ◌<◌, ◌^◌, Bool, List, length, reverse, map, Option, Some, None, ⊤}
use Rattle.tombstones.specs.declared.entry.Entry.{Entry}
use Rattle.tombstones.specs.Entries.{IsAscending, entry_at, kept}
use Rattle.levels.specs.Indexes.{PgmIndex, IsIndex}

-- the keys of a level, rising
abbrev pub level_keys : List Entry → List ℕ
level_keys entries = map (λ entry. entry.key) entries

-- the last of the entries with a key, if there is one
abbrev pub last_at : List Entry → ℕ → Option Entry
last_at entries key = entry_at (reverse entries) key

-- the last entry of each key, by rising key; in the deepest level those with a value alone
pub record IsLastOfEach (deepest : Bool) (entries level : List Entry) : Type 0 where
  pub ascending : IsAscending level
  pub lasts : (key : ℕ) → entry_at level key ≡ kept deepest (last_at entries key)

-- the key is below the least one, if there is one
abbrev pub IsBelow : ℕ → Option ℕ → Type 0
IsBelow key None = ⊤
IsBelow key (Some least) = key < least

-- the index is the one of the entries' keys
pub record IsIndexed (entries : List Entry) (index : PgmIndex) : Type 0 where
  pub ascending : IsAscending entries
  pub few : length entries < 2 ^ 32
  pub keys : index.keys ≡ level_keys entries
  pub eps : index.eps ≡ 64
  pub eps_rec : index.eps_rec ≡ 4
  pub levels : IsIndex index.keys 64 4 index.levels
