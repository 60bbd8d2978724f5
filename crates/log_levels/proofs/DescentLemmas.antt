-- A walk down the keys of a map.
use Rattle.std.proofs.Common.{◌≡◌, ℕ, ◌+◌, ◌-◌, ◌^◌, ◌<◌, ◌≤◌, ◌⊎◌, List, length, slice_index, slice_index_or}
use Rattle.std.proofs.Common.{slice_set, Option, Some, None, IfSome, IsSome, refl, sym, ap, ◌∙◌, subst, inl, inr, arith}
use Rattle.std.specs.Int.{bit_at}
use Rattle.std.proofs.lemmas.Bool.{cases_lt, cases_order}
use Rattle.std.proofs.lemmas.Nat.Bits.{bit_at-zero}
use Rattle.std.proofs.lemmas.List.{get_or_default, get_or-set_same, get_or-set_other, length-set}
use Rattle.tombstones.specs.declared.entry.Entry.{Entry}
use Rattle.tombstones.specs.Entries.{IsAscending, entry_at}
use Rattle.tombstones.proofs.CallerLemmas.{key-entry_at, Contains-entry_at}
use Rattle.window_search.specs.Searches.{lb}
use Rattle.window_search.proofs.CallerLemmas.{IsLowerBound-lb, lb-is}
use Rattle.map_level.specs.Levels.{last_at, level_keys}
use Rattle.map_level.proofs.LevelLemmas.{no_entry, length-level_keys, key-at, keys-rise, keys-never_fall}
use Rattle.map_level.proofs.LevelLemmas.{found-at, key-before, place-passed}
use Rattle.log_levels.specs.declared.update.Update.{Update}
use Rattle.log_levels.specs.Accepted.{entries_of}
use Rattle.log_levels.specs.Maps.{map_after, previous_to}
use Rattle.log_levels.specs.Shapes.{Held, IsCutOf, level_of, from_bit}
use Rattle.log_levels.specs.Kept.{ArePlaces, IsAbsent, IsGreatestBelow, IsLastLive, value_of}
use Rattle.log_levels.proofs.HeadLemmas.{level-inside}
use Rattle.log_levels.proofs.MapLemmas.{rises-after, previous-is, previous-none}
use Rattle.log_levels.proofs.OccupiedLemmas.{bit-behind, bit-left_out, bit-still, bit-within}
use Rattle.log_levels.proofs.SearchLemmas.{absent-value, found-level, search-buffer}
use Rattle.log_levels.proofs.ValueLemmas.{value-after}

-- a place in a level is at most its length
pub lb-within : (level : List Entry) (key place : ℕ) →
    IsAscending level → place ≡ lb (level_keys level) key → place ≤ length level
lb-within level key place ascending at = (key-before level level key place refl ascending at).0

-- behind the place of a key whose entry stands there
pub behind-here : (level : List Entry) (key place : ℕ) →
    IsAscending level → place ≡ lb (level_keys level) key → place < length level
    → (slice_index_or level place no_entry).key ≡ key → place + 1 ≡ lb (level_keys level) (key + 1)
behind-here level key place ascending at inside is =
    (place-passed level key place key ascending at inside (key-at level place 0 no_entry inside ∙ is)).1

-- and of another key
pub behind-other : (level : List Entry) (key place : ℕ) → IsAscending level → place ≡ lb (level_keys level) key
    → (place < length level → (slice_index_or level place no_entry).key ≡ key → ⊥) →
    place ≡ lb (level_keys level) (key + 1)
behind-other level key place ascending at other =
    let lower = IsLowerBound-lb (level_keys level) key (keys-never_fall level ascending) in
    let count = length-level_keys level in
    sym (lb-is (level_keys level) (key + 1) place (omega (arith, lower.within))
    (λ k less. omega (arith, lower.before k (omega arith))) (λ k past inside.
    elim (cases_lt key (slice_index (level_keys level) k)) [
      | inl above ↦ omega arith
      | inr at_most ↦ elim (cases_lt place k) [
        | inl after ↦ absurd
            (omega (
              arith,
              at_most,
              lower.from place (omega arith) (omega arith),
              keys-rise level ascending place k 0 after inside,
            ))
        | inr here ↦
            let same : k ≡ place = omega arith in
            let fits : place < length level = omega arith in
            absurd
            (other fits
            (omega (
              arith,
              at_most,
              lower.from k (omega arith) inside,
              key-at level place 0 no_entry fits,
              ap (λ i. slice_index (level_keys level) i) same,
            )))
      ]
    ]))

-- the entry before a place is the one with its key
pub before-found : (level : List Entry) (place : ℕ) → IsAscending level → 0 < place → place ≤ length level →
    entry_at level (slice_index_or level (place - 1) no_entry).key ≡ Some (slice_index_or level (place - 1) no_entry)
before-found level place ascending some within =
    let e = slice_index_or level (place - 1) no_entry in
    found-at level e.key (place - 1) e ascending (omega arith)
    (get_or_default level (place - 1) e no_entry (omega arith)) refl

-- from its key on no key is below the bound whose place it is
pub before-none : (level : List Entry) (end place key : ℕ) →
    IsAscending level → place ≡ lb (level_keys level) end → key < end
    → (0 < place → (slice_index_or level (place - 1) no_entry).key < key) → entry_at level key ≡ None
before-none level end place key ascending at less above = go (entry_at level key) refl
  where
    go : (found : Option Entry) → entry_at level key ≡ found → entry_at level key ≡ None
    go None is = is
    go (Some e) is =
        let (i, inside, stands) = Contains-entry_at level key e is in
        let here : slice_index_or (level_keys level) i 0 ≡ key = key-at level i 0 e inside
        ∙ ap (λ (x : Entry). x.key) stands ∙ key-entry_at level key e is in
        let lower = IsLowerBound-lb (level_keys level) end (keys-never_fall level ascending) in
        let count = length-level_keys level in
        elim (cases_lt i place) [
          | inl before ↦ absurd (omega (
            arith,
            above (omega arith),
            keys-never_fall level ascending i (place - 1) 0 (omega arith) (omega (arith, lower.within)),
            key-at level (place - 1) 0 no_entry (omega (arith, lower.within)),
          ))
          | inr past ↦ absurd (omega (arith, here, lower.from i (omega arith) (omega arith)))
        ]

-- back to the place of the key before it
pub back-here : (level : List Entry) (end place key : ℕ) →
    IsAscending level → place ≡ lb (level_keys level) end → 0 < place
    → (slice_index_or level (place - 1) no_entry).key ≡ key → place - 1 ≡ lb (level_keys level) key
back-here level end place key ascending at some is =
    let lower = IsLowerBound-lb (level_keys level) end (keys-never_fall level ascending) in
    let count = length-level_keys level in
    let read : slice_index (level_keys level) (place - 1) ≡ key =
    key-at level (place - 1) 0 no_entry (omega (arith, lower.within)) ∙ is in
    sym (lb-is (level_keys level) key (place - 1) (omega (arith, lower.within))
    (λ k less. omega (arith, read, keys-rise level ascending k (place - 1) 0 less (omega (arith, lower.within))))
    (λ k past inside. omega (arith, read, keys-never_fall level ascending (place - 1) k 0 past inside)))

-- or of a key that the level hasn't
pub back-other : (level : List Entry) (end place key : ℕ) →
    IsAscending level → place ≡ lb (level_keys level) end → key < end →
    ((other : ℕ) → key < other → other < end → entry_at level other ≡ None)
    → (0 < place → (slice_index_or level (place - 1) no_entry).key ≡ key → ⊥) → place ≡ lb (level_keys level) key
back-other level end place key ascending at less none apart =
    let lower = IsLowerBound-lb (level_keys level) end (keys-never_fall level ascending) in
    let count = length-level_keys level in
    sym (lb-is (level_keys level) key place (omega (arith, lower.within))
    (λ k before. omega (
      arith,
      below (omega arith),
      key-at level (place - 1) 0 no_entry (omega (arith, lower.within)),
      keys-never_fall level ascending k (place - 1) 0 (omega arith) (omega (arith, lower.within)),
    ))
    (λ k past inside. omega (arith, lower.from k (omega arith) inside)))
  where
    below : 0 < place → (slice_index_or level (place - 1) no_entry).key < key
    below some =
        let within = lb-within level end place ascending at in
        let under = (key-before level level end place refl ascending at).1 in
        elim (cases_order (slice_index_or level (place - 1) no_entry).key key) [
          | inl same ↦ absurd (apart some same)
          | inr (inl before) ↦ before
          | inr (inr after) ↦
              let gone : Some (slice_index_or level (place - 1) no_entry) ≡ None =
              sym (before-found level place ascending some within)
              ∙ none (slice_index_or level (place - 1) no_entry).key after (under some) in cc
        ]

-- the levels whose bits are left are taken
pub record AreTaken (held : Held) (rest : ℕ) : Type 0 where
  pub within : rest < 2 ^ length held.levels
  pub few : length held.levels ≤ 26
  pub taken : (i : ℕ) → bit_at rest i ≡ 1 → IsSome (level_of held i)

pub taken-few : (held : Held) (rest t : ℕ) → AreTaken held rest → bit_at rest t ≡ 1 → t < 26
taken-few held rest t are set =
    omega (arith, bit-within rest (length held.levels) t are.within set, are.few)

pub taken-less : (held : Held) (rest t less : ℕ) →
    AreTaken held rest → less ≡ from_bit (t + 1) rest → less < rest → AreTaken held less
taken-less held rest t less are is fewer = record {
  within = omega (arith, are.within, fewer);
  few = are.few;
  taken = λ i set. are.taken i (bit-still rest t i (ap (λ n. bit_at n i) (sym is) ∙ set)).1;
}

-- places are moved to those of a key, but for the levels whose bit in `rest` is 1
pub record AreMoved (held : Held) (old now : List ℕ) (rest key : ℕ) : Type 0 where
  pub count : length now ≡ 26
  pub left : (i : ℕ) → bit_at rest i ≡ 1 → slice_index now i ≡ slice_index old i
  pub done : (i : ℕ) (level : List Entry) →
      bit_at rest i ≡ 0 → level_of held i ≡ Some level → slice_index now i ≡ lb (level_keys level) key

pub moved-none : (held : Held) (old : List ℕ) (rest key : ℕ) → length old ≡ 26
    → ((i : ℕ) → i < length held.levels → bit_at rest i ≡ 0 → level_of held i ≡ None) →
    AreMoved held old old rest key
moved-none held old rest key count free = record {
  count = count;
  left = λ i set. refl;
  done = λ i level clear is.
      let apart : None ≡ Some level = sym (free i (level-inside held i level is) clear) ∙ is in cc;
}

pub moved-more : (held : Held) (old now : List ℕ) (rest t key place : ℕ) (level : List Entry) →
    AreMoved held old now rest key → bit_at rest t ≡ 1 → from_bit t rest ≡ rest → t < 26
    → level_of held t ≡ Some level → place ≡ lb (level_keys level) key
    → AreMoved held old (slice_set now t place) (from_bit (t + 1) rest) key
moved-more held old now rest t key place level are set lowest fits level_is at = record {
  count = length-set now t place ∙ are.count;
  left = λ i still.
      let (after, was) = bit-still rest t i still in
      get_or-set_other now t i place 0 (λ same. absurd (omega (arith, after, same))) ∙ are.left i was;
  done = λ i list clear is. elim (bit-behind rest t i lowest clear) [
    | inl earlier ↦ get_or-set_other now t i place 0
        (λ same. absurd (omega (arith, ap (λ k. bit_at rest k) same, set, earlier))) ∙ are.done i list earlier is
    | inr same ↦
        let both : Some level ≡ Some list = sym level_is ∙ ap (level_of held) (sym same) ∙ is in
        let one : level ≡ list = cc in
        ap (λ k. slice_index (slice_set now t place) k) same
        ∙ get_or-set_same now t place 0 (omega (arith, fits, are.count)) ∙ at
        ∙ ap (λ (l : List Entry). lb (level_keys l) key) one
  ];
}

-- a place that isn't moved yet
pub place-left : (held : Held) (old now : List ℕ) (rest t key end : ℕ) (level : List Entry) →
    AreMoved held old now rest key → ArePlaces held old end → bit_at rest t ≡ 1 → level_of held t ≡ Some level →
    slice_index now t ≡ lb (level_keys level) end
place-left held old now rest t key end level are places set is =
    are.left t set ∙ places.each t level (level-inside held t level is) is

pub moved-all : (held : Held) (old now : List ℕ) (rest key : ℕ) →
    AreMoved held old now rest key → rest ≡ 0 → ArePlaces held now key
moved-all held old now rest key are none = record {
  count = are.count;
  each = λ i level inside is. are.done i level (ap (λ n. bit_at n i) none ∙ bit_at-zero i) is;
}

-- the last entry of the greatest key below an end, of the buffer and the levels whose bit in `rest` is 0
pub record IsGreatestOf (held : Held) (rest end : ℕ) (greatest : Option Entry) : Type 0 where
  pub below : IfSome greatest (λ entry. entry.key < end)
  pub buffer : (key : ℕ) → key < end → IfSome greatest (λ entry. entry.key < key) → last_at held.buffer key ≡ None
  pub levels : (key i : ℕ) (level : List Entry) → key < end → IfSome greatest (λ entry. entry.key < key) →
      bit_at rest i ≡ 0 → level_of held i ≡ Some level → entry_at level key ≡ None
  pub last : IfSome greatest (λ entry. (entries : List Entry) →
      IsCutOf held entries → value_of (last_at entries entry.key) ≡ entry.value)

pub greatest-buffer : (held : Held) (rest end : ℕ) (found : Option Entry) →
    ((i : ℕ) → i < length held.levels → bit_at rest i ≡ 0 → level_of held i ≡ None) →
    IsGreatestBelow (last_at held.buffer) end found → IsGreatestOf held rest end found
greatest-buffer held rest end None free is = record {
  below = tt;
  buffer = λ key less above. is key less;
  levels = λ key i level less above clear at.
      let apart : None ≡ Some level = sym (free i (level-inside held i level at) clear) ∙ at in cc;
  last = tt;
}
greatest-buffer held rest end (Some entry) free (less, found, none) = record {
  below = less;
  buffer = λ key before above. none key above before;
  levels = λ key i level before above clear at.
      let apart : None ≡ Some level = sym (free i (level-inside held i level at) clear) ∙ at in cc;
  last = λ entries cut. ap value_of (search-buffer entries held.buffer entry.key entry cut.buffer found);
}

-- which of two entries has the greater key, of one key the first
pub record IsGreater (one other greater : Option Entry) : Type 0 where
  pub above_one : (key : ℕ) → IfSome greater (λ entry. entry.key < key) → IfSome one (λ entry. entry.key < key)
  pub above_other : (key : ℕ) → IfSome greater (λ entry. entry.key < key) → IfSome other (λ entry. entry.key < key)
  pub either : (greater ≡ one)
      ⊎ ((greater ≡ other) × IfSome other (λ later. IfSome one (λ entry. entry.key < later.key)))

-- with the next level
pub greatest-more : (held : Held) (rest t end : ℕ) (one other greater : Option Entry) (level : List Entry) →
    IsGreatestOf held rest end one → IsGreatestBelow (entry_at level) end other → IsGreater one other greater
    → from_bit t rest ≡ rest → level_of held t ≡ Some level → IsGreatestOf held (from_bit (t + 1) rest) end greater
greatest-more held rest t end one other greater level is found greatest lowest level_is = record {
  below = elim greatest.either [
    | inl same ↦ subst (λ (r : Option Entry). IfSome r (λ (entry : Entry). entry.key < end)) (sym same) is.below
    | inr (same, later) ↦
        subst (λ (r : Option Entry). IfSome r (λ (entry : Entry). entry.key < end)) (sym same) (other-below other found)
  ];
  buffer = λ key less above. is.buffer key less (greatest.above_one key above);
  levels = λ key i list less above clear at. elim (bit-behind rest t i lowest clear) [
    | inl earlier ↦ is.levels key i list less (greatest.above_one key above) earlier at
    | inr same ↦
        let both : Some level ≡ Some list = sym level_is ∙ ap (level_of held) (sym same) ∙ at in
        let one_list : level ≡ list = cc in
        ap (λ (l : List Entry). entry_at l key) (sym one_list)
        ∙ other-absent other found key less (greatest.above_other key above)
  ];
  last = elim greatest.either [
    | inl same ↦
        subst (λ (r : Option Entry). IfSome r (λ (entry : Entry). (entries : List Entry) →
        IsCutOf held entries → value_of (last_at entries entry.key) ≡ entry.value)) (sym same) is.last
    | inr (same, later) ↦
        subst (λ (r : Option Entry). IfSome r (λ (entry : Entry). (entries : List Entry) →
        IsCutOf held entries → value_of (last_at entries entry.key) ≡ entry.value)) (sym same)
        (other-last other found later)
  ];
}
  where
    other-below : (other : Option Entry) →
        IsGreatestBelow (entry_at level) end other → IfSome other (λ entry. entry.key < end)
    other-below None none = tt
    other-below (Some entry) (less, at, none) = less

    other-absent : (other : Option Entry) → IsGreatestBelow (entry_at level) end other → (key : ℕ) →
        key < end → IfSome other (λ entry. entry.key < key) → entry_at level key ≡ None
    other-absent None none key less above = none key less
    other-absent (Some entry) (before, at, none) key less above = none key above less

    other-last : (other : Option Entry) → IsGreatestBelow (entry_at level) end other
        → IfSome other (λ later. IfSome one (λ entry. entry.key < later.key)) →
        IfSome other (λ entry. (entries : List Entry) →
        IsCutOf held entries → value_of (last_at entries entry.key) ≡ entry.value)
    other-last None none later = tt
    other-last (Some entry) (less, at, none) later = λ entries cut.
        found-level held entries t entry.key level entry cut (level-inside held t level level_is)
        (is.buffer entry.key less later)
        (λ j list before there. is.levels entry.key j list less later
        (ap (λ n. bit_at n j) (sym lowest) ∙ bit-left_out t rest j before) there) level_is at

-- once all levels were looked at, no entry has a greater key
pub greatest-absent : (held : Held) (rest end key : ℕ) (greatest : Option Entry) →
    IsGreatestOf held rest end greatest → rest ≡ 0 → key < end → IfSome greatest (λ entry. entry.key < key) →
    IsAbsent held key
greatest-absent held rest end key greatest is none less above = record {
  buffer = is.buffer key less above;
  levels = λ i level inside at.
      is.levels key i level less above (ap (λ n. bit_at n i) none ∙ bit_at-zero i) at;
}

-- what a walk down from a bound finds is what the map has up to a number, if it has none between them
pub previous-stands : (updates : List Update) (q bound : ℕ) (found : Option (ℕ × ℕ)) → bound ≤ q
    → ((key : ℕ) → bound < key → key ≤ q → value_of (last_at (entries_of updates) key) ≡ None) →
    IsLastLive (entries_of updates) 0 (bound + 1) found → found ≡ previous_to (map_after updates) q
previous-stands updates q bound None within bare none =
    sym (previous-none 0 (map_after updates) q (rises-after updates)
    (λ other at_most. value-after updates other ∙ elim (cases_lt bound other) [
      | inl above ↦ bare other above at_most
      | inr below ↦ none other (omega arith) (omega arith)
    ]))
previous-stands updates q bound (Some (key, value)) within bare (above, below, is, none) =
    sym (previous-is 0 (map_after updates) q key value (rises-after updates) (omega arith)
    (value-after updates key ∙ is)
    (λ other after at_most. value-after updates other ∙ elim (cases_lt bound other) [
      | inl past ↦ bare other past at_most
      | inr before ↦ none other after (omega arith)
    ]))

-- from the key that was found up to the end no other has a value
pub none-behind : (held : Held) (entries : List Entry) (end high key : ℕ) → IsCutOf held entries
    → ((other : ℕ) → high ≤ other → other < end → value_of (last_at entries other) ≡ None) →
    ((other : ℕ) → other < high → key < other → IsAbsent held other) →
    (other : ℕ) → key < other → other < end → value_of (last_at entries other) ≡ None
none-behind held entries end high key cut none absent other above less = elim (cases_lt other high) [
  | inr past ↦ none other past less
  | inl before ↦ absent-value held entries other cut (absent other before above)
]

-- and where it has none, no key
pub none-back : (held : Held) (entries : List Entry) (end high key : ℕ) → IsCutOf held entries
    → ((other : ℕ) → high ≤ other → other < end → value_of (last_at entries other) ≡ None) →
    ((other : ℕ) → other < high → key < other → IsAbsent held other) → value_of (last_at entries key) ≡ None →
    (other : ℕ) → key ≤ other → other < end → value_of (last_at entries other) ≡ None
none-back held entries end high key cut none absent is other from less = elim (cases_lt key other) [
  | inl above ↦ none-behind held entries end high key cut none absent other above less
  | inr at_key ↦
      let same : key ≡ other = omega arith in ap (λ k. value_of (last_at entries k)) (sym same) ∙ is
]
