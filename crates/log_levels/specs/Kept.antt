-- How maps are kept. No public clause cites it.
use Rattle.std.specs.Prelude.{◌≡◌, ℕ, ◌+◌, ◌-◌, ◌*◌, ◌/◌, ◌%◌, ◌≤◌, ◌<◌, ◌^◌, ◌==◌, List, ◌++◌, length, map}
use Rattle.std.specs.Prelude.{drop, Option, Some, None, IsSome, IfSome, slice_index, slice_index_or, ⊤}
use Rattle.window_search.specs.Searches.{lb}
use Rattle.std.specs.List.{sum_by}
use Rattle.std.specs.Int.{bit_at}
use Rattle.std.specs.Option.{option_map}
use Rattle.std.specs.declared.sync.Arc.{Arc}
use Rattle.std.specs.Arc.{arc_value}
use Rattle.options.specs.declared.map.TheConstants.{MAX_LEVELS}
use Rattle.tombstones.specs.declared.entry.Entry.{Entry}
use Rattle.tombstones.specs.Entries.{IsAscending, entry_at, kept}
use Rattle.log_levels.specs.declared.bare.Bare.{Bare}
use Rattle.log_levels.specs.declared.heads.First.{First}
use Rattle.log_levels.specs.declared.upcoming.Upcoming.{Upcoming}
use Rattle.log_levels.specs.declared.many.Search.{Search}
use Rattle.log_levels.specs.declared.many.Search.TheVariants.{Done, Open, Near}
use Rattle.log_levels.specs.declared.walk.Walk.{Walk}
use Rattle.log_levels.specs.declared.fault.MapFault.{MapFault}
use Rattle.log_levels.specs.declared.fault.MapFault.TheVariants.{Full, NoMemory}
use Rattle.log_levels.specs.declared.fault.LoadFault.{LoadFault}
use Rattle.log_levels.specs.declared.update.Update.{Update}
use Rattle.log_levels.specs.declared.update.Update.TheVariants.{Put, Del, Sweep}
use Rattle.log_levels.specs.Accepted.{put_entry, del_entry}
use Rattle.map_level.specs.Levels.{level_keys, last_at, IsBelow}
use Rattle.log_levels.specs.Shapes.{Held, IsCutOf, IsLevelFor, capacity_of, level_of, from_bit}

-- the entries of shared levels
abbrev pub levels_of : {Z : Type 0} → List (Option (Arc (List Entry) Z)) → List (Option (List Entry))
levels_of {Z} stored = map (option_map (λ (level : Arc (List Entry) Z). arc_value level)) stored

-- what a map holds
abbrev pub held_of : {Z : Type 0} → ℕ → List Entry → List (Option (Arc (List Entry) Z)) → Held
held_of accepted buffer stored = record { accepted = accepted; buffer = buffer; levels = levels_of stored }

-- the value that an entry gives its key, if there is an entry
abbrev pub value_of : Option Entry → Option ℕ
value_of None = None
value_of (Some entry) = entry.value

-- how many steps up it takes from a number to another, where 0 comes behind 2^64 - 1
abbrev pub ahead : ℕ → ℕ → ℕ
ahead from to = (to + (2 ^ 64 - from)) % 2 ^ 64

-- a number of a stretch
abbrev pub IsIn : Bare → ℕ → Type 0
IsIn bare key = (key < 2 ^ 64) × (ahead bare.first key < bare.count)

-- a map has no key in a stretch
abbrev pub IsBareIn : Held → Bare → Type 0
IsBareIn held bare =
    (entries : List Entry) (key : ℕ) → IsCutOf held entries → IsIn bare key → value_of (last_at entries key) ≡ None

-- a map that is kept so stands for some entries, its buffer has
-- room for 64, and it has no key in the stretch that it remembers
pub record IsKept (held : Held) (room : ℕ) (stretch : Bare) : Type 0 where
  pub cut : (entries : List Entry) × IsCutOf held entries
  pub roomy : 64 ≤ room
  pub some : 1 ≤ length held.levels
  pub few : length held.levels ≤ MAX_LEVELS
  pub bare : IsBareIn held stretch

-- the levels below level i, the buffer and the new entries behind them, merged: what comes
-- behind the blocks from bit i on. Where no bit from bit i on is left, deletions are left out
pub record IsMergedTo (entries : List Entry) (f i : ℕ) (new merged : List Entry) : Type 0 where
  pub ascending : IsAscending merged
  pub lasts : (key : ℕ) →
      entry_at merged key ≡ kept (f / 2 ^ i == 0) (last_at (drop (64 * from_bit i f) entries ++ new) key)

-- in `count` more entries bit `top` is the highest one that the number of blocks changes
pub record IsHighestChange (accepted count top : ℕ) : Type 0 where
  pub above : accepted / 64 / 2 ^ (top + 1) ≡ (accepted + count) / 64 / 2 ^ (top + 1)
  pub was_clear : bit_at (accepted / 64) top ≡ 0
  pub is_set : bit_at ((accepted + count) / 64) top ≡ 1

-- `count` more entries fit a map, and bit `top`, which has a level, is the highest one that they change
pub record IsGrowth (held : Held) (count top : ℕ) : Type 0 where
  pub inside : top < length held.levels
  pub change : IsHighestChange held.accepted count top
  pub room : held.accepted + count ≤ capacity_of held

-- what level i is with new entries, whatever the entries are that are held
abbrev pub IsGrownLevel : Held → List Entry → ℕ → Option (List Entry) → Type 0
IsGrownLevel held new i level = (entries : List Entry) →
    IsCutOf held entries → IsLevelFor (entries ++ new) ((held.accepted + length new) / 64) i level

-- the entries of a level, if there is one
abbrev pub shared_of : {Z : Type 0} → Option (Arc (List Entry) Z) → Option (List Entry)
shared_of {Z} level = option_map (λ (level : Arc (List Entry) Z). arc_value level) level

-- no entry has the key
pub record IsAbsent (held : Held) (key : ℕ) : Type 0 where
  pub buffer : last_at held.buffer key ≡ None
  pub levels : (i : ℕ) (level : List Entry) →
      i < length held.levels → level_of held i ≡ Some level → entry_at level key ≡ None

-- the places of a key in the levels: how many keys are below it
pub record ArePlaces (held : Held) (places : List ℕ) (key : ℕ) : Type 0 where
  pub count : length places ≡ MAX_LEVELS
  pub each : (i : ℕ) (level : List Entry) →
      i < length held.levels → level_of held i ≡ Some level → slice_index places i ≡ lb (level_keys level) key

-- what a level has at a key, if it is occupied
abbrev pub entry_in : Option (List Entry) → ℕ → Option Entry
entry_in None key = None
entry_in (Some level) key = entry_at level key

-- the first key from a bound on that has a value, if there is one
abbrev pub IsNextLive : List Entry → ℕ → Option (ℕ × ℕ) → Type 0
IsNextLive entries from None = (key : ℕ) → from ≤ key → value_of (last_at entries key) ≡ None
IsNextLive entries from (Some (key, value)) = (from ≤ key) × (value_of (last_at entries key) ≡ Some value)
    × ((other : ℕ) → from ≤ other → other < key → value_of (last_at entries other) ≡ None)

-- the entry of the greatest key below an end, where there is an entry at a key, if there is one
abbrev pub IsGreatestBelow : (ℕ → Option Entry) → ℕ → Option Entry → Type 0
IsGreatestBelow at end None = (key : ℕ) → key < end → at key ≡ None
IsGreatestBelow at end (Some entry) = (entry.key < end)
    × (at entry.key ≡ Some entry) × ((key : ℕ) → entry.key < key → key < end → at key ≡ None)

-- the last key from a bound on and below an end that has a value, if there is one
abbrev pub IsLastLive : List Entry → ℕ → ℕ → Option (ℕ × ℕ) → Type 0
IsLastLive entries low end None = (key : ℕ) → low ≤ key → key < end → value_of (last_at entries key) ≡ None
IsLastLive entries low end (Some (key, value)) =
    (low ≤ key) × (key < end) × (value_of (last_at entries key) ≡ Some value)
    × ((other : ℕ) → key < other → other < end → value_of (last_at entries other) ≡ None)

-- the entry of an update that is one
abbrev pub plain_entry : Update → Entry
plain_entry (Put key value) = put_entry key value
plain_entry (Del key) = del_entry key
plain_entry (Sweep low high) = del_entry low

-- the map was full
abbrev pub IsFull : MapFault → Type 0
IsFull (Full accepted) = ⊤
IsFull NoMemory = ⊥

-- the same fault of a list of pairs
abbrev pub load_fault : MapFault → LoadFault
load_fault (Full accepted) = LoadFault.Full accepted
load_fault NoMemory = LoadFault.NoMemory

-- the entries of puts of these pairs
abbrev pub entries_put : List (ℕ × ℕ) → List Entry
entries_put pairs = map (λ pair. put_entry pair.0 pair.1) pairs

-- the first entry of a buffer from a bound on: of the least key there the last one
abbrev pub IsFirstFrom : List Entry → ℕ → Option Entry → Type 0
IsFirstFrom buffer low None = (key : ℕ) → low ≤ key → last_at buffer key ≡ None
IsFirstFrom buffer low (Some entry) = (low ≤ entry.key)
    × (last_at buffer entry.key ≡ Some entry) × ((key : ℕ) → low ≤ key → key < entry.key → last_at buffer key ≡ None)

-- the entry at a place of a buffer, and its key
abbrev pub entry_of : List Entry → ℕ → Entry
entry_of buffer place = let none : Entry = record { key = 0; value = None } in slice_index_or buffer place none

abbrev pub key_of : List Entry → ℕ → ℕ
key_of buffer place = (entry_of buffer place).key

-- places of the last entries of keys from a bound on behind a place `start` of a buffer, by falling key
pub record IsOrder (buffer : List Entry) (start from : ℕ) (order : List ℕ) : Type 0 where
  pub few : length order + start ≤ length buffer
  pub inside : (k : ℕ) → k < length order → slice_index order k < length buffer
  pub falls : (j k : ℕ) →
      j < k → k < length order → key_of buffer (slice_index order k) < key_of buffer (slice_index order j)
  pub above : (k : ℕ) → k < length order → from ≤ key_of buffer (slice_index order k)
  pub last : (k : ℕ) → k < length order →
      last_at (drop start buffer) (key_of buffer (slice_index order k)) ≡ Some (entry_of buffer (slice_index order k))
  pub rest : (key : ℕ) → from ≤ key → ((k : ℕ) → k < length order → key_of buffer (slice_index order k) ≡ key → ⊥) →
      last_at (drop start buffer) key ≡ None

-- if there are places, they are all of a buffer from a bound on
abbrev pub AreLater : List Entry → ℕ → List ℕ → Type 0
AreLater buffer from order = 0 < length order → IsOrder buffer 0 from order

-- what a walk has left of a buffer from a bound on
pub record IsUpcoming (buffer : List Entry) (low : ℕ) (upcoming : Upcoming) : Type 0 where
  pub next : IsFirstFrom buffer low upcoming.next
  pub later : IfSome upcoming.next (λ entry. AreLater buffer (entry.key + 1) upcoming.later.items)

-- each place is that of a key up to a bound, so what a level has from the bound on lies behind it
pub record AreBehind (held : Held) (places : List ℕ) (low : ℕ) : Type 0 where
  pub count : length places ≡ MAX_LEVELS
  pub each : (i : ℕ) (level : List Entry) → i < length held.levels →
      level_of held i ≡ Some level → (from : ℕ) × ((from ≤ low) × (slice_index places i ≡ lb (level_keys level) from))

-- a level has this key at its place
pub record StandsAt (held : Held) (places : List ℕ) (key i : ℕ) : Type 0 where
  pub inside : i < length held.levels
  pub taken : IsSome (level_of held i)
  pub stands : (level : List Entry) → level_of held i ≡ Some level →
      (slice_index places i < length level) × (slice_index (level_keys level) (slice_index places i) ≡ key)

-- a head comes first: its key is the least, and of that key its level the newest
pub record IsFirst (heads : List (ℕ × ℕ)) (first : First) : Type 0 where
  pub inside : first.place < length heads
  pub is : (d : ℕ × ℕ) → slice_index_or heads first.place d ≡ (first.key, first.level)
  pub least : (k : ℕ) (d : ℕ × ℕ) → k < length heads → first.key ≤ (slice_index_or heads k d).0
  pub newest : (k : ℕ) (d : ℕ × ℕ) → k < first.place → first.key < (slice_index_or heads k d).0

-- the heads of the levels whose bit in `rest` is 0, by rising level: the keys
-- at their places. Up to the head of a level it has no key behind the place
pub record AreHeads (held : Held) (places : List ℕ) (rest : ℕ) (heads : List (ℕ × ℕ)) : Type 0 where
  pub low : length held.levels ≤ MAX_LEVELS
  pub few : (j : ℕ) → bit_at rest j ≡ 1 → length heads ≤ j
  pub below : (k j : ℕ) (d : ℕ × ℕ) → k < length heads → bit_at rest j ≡ 1 → (slice_index_or heads k d).1 < j
  pub rise : (j k : ℕ) (d : ℕ × ℕ) →
      j < k → k < length heads → (slice_index_or heads j d).1 < (slice_index_or heads k d).1
  pub stand : (k : ℕ) (d : ℕ × ℕ) →
      k < length heads → StandsAt held places (slice_index_or heads k d).0 (slice_index_or heads k d).1
  pub each : (j from key : ℕ) (level : List Entry) →
      bit_at rest j ≡ 0 → level_of held j ≡ Some level → slice_index places j ≡ lb (level_keys level) from → from ≤ key
      → ((k : ℕ) (d : ℕ × ℕ) → k < length heads → (slice_index_or heads k d).1 ≡ j → key < (slice_index_or heads k d).0)
      → entry_at level key ≡ None

-- what is left of a map from a bound on
pub record IsLeft (held : Held) (walk : Walk) (low : ℕ) : Type 0 where
  pub buffer : IsUpcoming held.buffer low walk.buffered
  pub levels : AreBehind held walk.places low
  pub next : AreHeads held walk.places 0 walk.heads.items

-- the ends of what is left of a range, unless nothing is
pub record AreEnds (held : Held) (walk : Walk) (low : ℕ) (places : List ℕ) (high : ℕ) : Type 0 where
  pub few : low ≤ 2 ^ 64
  pub front : low ≤ high → IsLeft held walk low
  pub back : low ≤ high → ArePlaces held places (high + 1)

-- the key of what was found, if there is one
abbrev pub first_key : Option First → Option ℕ
first_key found = option_map (λ (first : First). first.key) found

-- no level before this one has the key, unless it was passed
abbrev pub AreNewer : Held → ℕ → ℕ → ℕ → Type 0
AreNewer held low key i =
    (j : ℕ) (level : List Entry) → low ≤ key → j < i → level_of held j ≡ Some level → entry_at level key ≡ None

-- the least key that a level has behind its place, with the newest of the levels that have it there
pub record IsLeastLeft (held : Held) (places : List ℕ) (low : ℕ) (found : Option First) : Type 0 where
  pub before : (key j : ℕ) (level : List Entry) → low ≤ key →
      IsBelow key (first_key found) → j < length held.levels → level_of held j ≡ Some level → entry_at level key ≡ None
  pub newer : IfSome found (λ first. AreNewer held low first.key first.level)
  pub at : IfSome found (λ first. StandsAt held places first.key first.level)

-- how much a walk has left at most, in keys and in places
abbrev pub left_of : List ℕ → ℕ → ℕ
left_of places low = 2 ^ 64 - low + sum_by (λ place. 2 ^ 32 - place) places

-- what a search is once a list was searched too, which has this entry with the key
abbrev pub searched : Option Entry → Search → Search
searched found (Done value) = Done value
searched None Open = Open
searched None (Near start) = Open
searched (Some entry) Open = Done entry.value
searched (Some entry) (Near start) = Done entry.value

-- a search in such a list has begun: what it comes to is the same, and it is open only where there is no entry
pub record IsBegun (found : Option Entry) (old new : Search) : Type 0 where
  pub same : searched found new ≡ searched found old
  pub missed : new ≡ Open → found ≡ None

-- the value that a search found
abbrev pub found_by : Search → Option ℕ
found_by (Done value) = value
found_by Open = None
found_by (Near start) = None
