-- A walk over the keys of a map.
use Rattle.std.proofs.Common.{◌≡◌, ℕ, ◌+◌, ◌-◌, ◌^◌, ◌<◌, ◌≤◌, max, MatchOption, slice_index}
use Rattle.std.proofs.Common.{slice_set, refl, List, [], ◌∷◌, ◌++◌, length, length-append, Option}
use Rattle.std.proofs.Common.{Some, None, IfSome, IsSome, sym, ap, ◌∙◌, subst, inl, inr, arith}
use Rattle.std.proofs.lemmas.Bool.{cases_lt, cases_eq}
use Rattle.tombstones.specs.declared.entry.Entry.{Entry}
use Rattle.tombstones.specs.Entries.{IsAscending, entry_at}
use Rattle.log_levels.specs.declared.heads.First.{First}
use Rattle.log_levels.specs.declared.upcoming.Upcoming.{Upcoming}
use Rattle.log_levels.specs.declared.update.Update.{Update}
use Rattle.log_levels.specs.declared.update.Update.TheVariants.{Sweep}
use Rattle.log_levels.proofs.UpdateLemmas.{entries_of-sweep}
use Rattle.std.proofs.lemmas.List.{length-map}
use Rattle.log_levels.specs.Maps.{map_after, value_at, next_from, count_between, pairs_between}
use Rattle.log_levels.specs.Accepted.{entries_of, entries_for, keys_between, del_entry}
use Rattle.map_level.specs.Levels.{last_at, IsBelow}
use Rattle.std.proofs.lemmas.List.{get_or-set_same, get_or-set_other, length-set}
use Rattle.std.proofs.lemmas.List.Sums.{sum_by-set}
use Rattle.log_levels.specs.Shapes.{Held, IsCutOf, level_of}
use Rattle.log_levels.specs.Kept.{IsAbsent, IsNextLive, IsFirstFrom, IsUpcoming, AreBehind}
use Rattle.log_levels.specs.Kept.{AreNewer, IsLeastLeft, StandsAt, first_key, left_of, value_of}
use Rattle.map_level.proofs.LevelLemmas.{place-passed}
use Rattle.log_levels.proofs.SearchLemmas.{absent-value, search-buffer, found-level}
use Rattle.log_levels.proofs.ValueLemmas.{value-after}
use Rattle.log_levels.proofs.MapLemmas.{rises-after, next-is, next-none, pairs-step}
use Rattle.log_levels.proofs.MapLemmas.{pairs-end, count-pairs, count-between}

-- the walk goes on past a key without a value
pub next-live : (held : Held) (entries : List Entry) (from low key value : ℕ) →
    IsCutOf held entries → from ≤ low → low ≤ key
    → ((other : ℕ) → from ≤ other → other < low → value_of (last_at entries other) ≡ None) →
    ((other : ℕ) → low ≤ other → other < key → IsAbsent held other)
    → Some value ≡ value_of (last_at entries key) → IsNextLive entries from (Some (key, value))
next-live held entries from low key value cut le above none absent is = (
  omega arith,
  sym is,
  λ other from_other less. elim (cases_lt other low) [
    | inl before ↦ none other from_other before
    | inr after ↦ absent-value held entries other cut (absent other after less)
  ],
)

pub none-past : (held : Held) (entries : List Entry) (from low key : ℕ) → IsCutOf held entries
    → ((other : ℕ) → from ≤ other → other < low → value_of (last_at entries other) ≡ None) →
    ((other : ℕ) → low ≤ other → other < key → IsAbsent held other)
    → None ≡ value_of (last_at entries key) →
    (other : ℕ) → from ≤ other → other < key + 1 → value_of (last_at entries other) ≡ None
none-past held entries from low key cut none absent is other from_other less = elim (cases_lt other low) [
  | inl before ↦ none other from_other before
  | inr after ↦ elim (cases_lt other key) [
    | inl between ↦ absent-value held entries other cut (absent other after between)
    | inr at_key ↦ let same : key ≡ other = omega arith in ap (λ k. value_of (last_at entries k)) (sym same) ∙ sym is
  ]
]

-- at the end of the walk
pub none-left : (held : Held) (entries : List Entry) (from low : ℕ) → IsCutOf held entries
    → ((other : ℕ) → from ≤ other → other < low → value_of (last_at entries other) ≡ None) →
    ((other : ℕ) → low ≤ other → IsAbsent held other) → IsNextLive entries from None
none-left held entries from low cut none absent other from_other = elim (cases_lt other low) [
  | inl before ↦ none other from_other before
  | inr after ↦ absent-value held entries other cut (absent other after)
]

-- what a walk finds is what the map has
pub next-stands : (updates : List Update) (q : ℕ) (found : Option (ℕ × ℕ)) →
    IsNextLive (entries_of updates) q found → found ≡ next_from (map_after updates) q
next-stands updates q None none =
    sym (next-none
    (map_after updates) q (λ other above. value-after updates other ∙ none other above) 0 (rises-after updates))
next-stands updates q (Some (key, value)) (above, is, none) =
    sym (next-is 0 (map_after updates) q key value (rises-after updates) above
    (value-after updates key ∙ is) (λ other low less. value-after updates other ∙ none other low less))

-- a key that a walk finds comes next in the range, if it is in it
pub pairs-found : (updates : List Update) (from high key value : ℕ) →
    IsNextLive (entries_of updates) from (Some (key, value)) → key ≤ high
    → pairs_between (map_after updates) from high ≡ (key, value) ∷ pairs_between (map_after updates) (key + 1) high
pairs-found updates from high key value (above, is, none) below =
    pairs-step 0 (map_after updates) from high key value (rises-after updates) above below
    (value-after updates key ∙ is) (λ other low less. value-after updates other ∙ none other low less)

pub pairs-past : (updates : List Update) (from high key value : ℕ) →
    IsNextLive (entries_of updates) from (Some (key, value)) →
    high < key → pairs_between (map_after updates) from high ≡ []
pairs-past updates from high key value (above, is, none) past =
    pairs-end (map_after updates) from high
    (λ other low below. value-after updates other ∙ none other low (omega arith)) 0 (rises-after updates)

pub pairs-none : (updates : List Update) (from high : ℕ) →
    IsNextLive (entries_of updates) from None → pairs_between (map_after updates) from high ≡ []
pairs-none updates from high none = pairs-end (map_after updates) from high
    (λ other low below. value-after updates other ∙ none other low) 0 (rises-after updates)

-- where no key is above a bound, what a walk finds isn't
pub live-within : (updates : List Update) (from high key value : ℕ) →
    IsNextLive (entries_of updates) from (Some (key, value)) →
    ((other : ℕ) → high < other → value_at (map_after updates) other ≡ None) → key ≤ high
live-within updates from high key value (above, is, none) end = elim (cases_lt high key) [
  | inr at_most ↦ at_most
  | inl past ↦ let apart : Some value ≡ None = sym is ∙ sym (value-after updates key) ∙ end key past in cc
]

-- so does it count
pub count-found : (updates : List Update) (from high key value : ℕ) →
    IsNextLive (entries_of updates) from (Some (key, value)) → key ≤ high
    → count_between (map_after updates) from high ≡ count_between (map_after updates) (key + 1) high + 1
count-found updates from high key value live below =
    omega (
      arith,
      count-pairs (map_after updates) from high,
      count-pairs (map_after updates) (key + 1) high,
      ap (λ (l : List (ℕ × ℕ)). length l) (pairs-found updates from high key value live below),
    )

pub count-past : (updates : List Update) (from high key value : ℕ) →
    IsNextLive (entries_of updates) from (Some (key, value)) →
    high < key → count_between (map_after updates) from high ≡ 0
count-past updates from high key value live past =
    omega (
      arith,
      count-pairs (map_after updates) from high,
      ap (λ (l : List (ℕ × ℕ)). length l) (pairs-past updates from high key value live past),
    )

pub count-none : (updates : List Update) (from high : ℕ) →
    IsNextLive (entries_of updates) from None → count_between (map_after updates) from high ≡ 0
count-none updates from high none =
    omega (
      arith,
      count-pairs (map_after updates) from high,
      ap (λ (l : List (ℕ × ℕ)). length l) (pairs-none updates from high none),
    )

-- how many entries there are with a sweep
pub length-sweep : (updates : List Update) (low high : ℕ) → length (entries_of (updates ++ Sweep low high ∷ []))
    ≡ length (entries_of updates) + count_between (map_after updates) low high
length-sweep updates low high =
    ap (λ (l : List Entry). length l) (entries_of-sweep updates low high)
    ∙ length-append (entries_of updates) (entries_for (map_after updates) (Sweep low high))
    ∙ omega (
      arith,
      length-map (keys_between (map_after updates) low high) del_entry,
      count-between (map_after updates) low high,
    )

-- a level's entry at its place is passed
pub behind-passed : (held : Held) (places : List ℕ) (low key i : ℕ) →
    ((level : List Entry) → level_of held i ≡ Some level → IsAscending level) →
    i < 26 → AreBehind held places low → StandsAt held places key i
    → AreBehind held (slice_set places i (slice_index places i + 1)) (max low (key + 1))
behind-passed held places low key i ascends fits behind at = record {
  count = length-set places i (slice_index places i + 1) ∙ behind.count;
  each = λ j level inside is. elim (cases_eq i j) [
    | inl here ↦
        let (from, (within, place)) = behind.each j level inside is in
        let (some, has) = at.stands level (ap (level_of held) here ∙ is) in
        let there : slice_index places i ≡ slice_index places j = ap (slice_index places) here in
        let (above, past) = place-passed level from
        (slice_index places i) key (ascends level (ap (level_of held) here ∙ is)) (there ∙ place) some has in (
          key + 1,
          (
            omega arith,
            ap (λ k. slice_index (slice_set places i (slice_index places i + 1)) k) (sym here)
                ∙ get_or-set_same places i (slice_index places i + 1) 0 (omega (arith, fits, behind.count)) ∙ past,
          ),
        )
    | inr other ↦
        let (from, (within, place)) = behind.each j level inside is in (
          from,
          (omega arith, get_or-set_other places i j (slice_index places i + 1) 0 (λ same. other (sym same)) ∙ place),
        )
  ];
}

-- it leaves less
pub left-passed : (held : Held) (places : List ℕ) (low key i : ℕ) →
    length places ≡ 26 → i < 26 → slice_index places i < 2 ^ 32 → low ≤ 2 ^ 64
    → left_of (slice_set places i (slice_index places i + 1)) (max low (key + 1)) < left_of places low
left-passed held places low key i count inside small few =
    omega (arith, sum_by-set (λ place. 2 ^ 32 - place) places i (slice_index places i + 1) 0 (omega arith))

-- no entry is at a key before the first of the buffer and those of the levels
pub absent-before : (held : Held) (buffered : Option Entry) (places : List ℕ) (low key : ℕ) (found : Option First) →
    IsFirstFrom held.buffer low buffered → IsLeastLeft held places low found → low ≤ key
    → IfSome buffered (λ entry. key < entry.key) → IsBelow key (first_key found) → IsAbsent held key
absent-before held buffered places low key found first least from before below = record {
  buffer = unmet buffered first before;
  levels = λ i level inside is. least.before key i level from below inside is;
}
  where
    unmet : (buffered : Option Entry) → IsFirstFrom held.buffer low buffered →
        IfSome buffered (λ entry. key < entry.key) → last_at held.buffer key ≡ None
    unmet None was before = was key from
    unmet (Some entry) (above, is, was) before = was key from before

-- the buffer's entry comes first
pub taken-first : (held : Held) (entries : List Entry) (low : ℕ) (entry : Entry) →
    IsCutOf held entries → IsFirstFrom held.buffer low (Some entry) → value_of (last_at entries entry.key) ≡ entry.value
taken-first held entries low entry cut (from, is, before) =
    ap value_of (search-buffer entries held.buffer entry.key entry cut.buffer is)

-- a level's entry comes first
pub taken-level : (held : Held) (entries : List Entry) (buffered : Option Entry) (low key i : ℕ) (entry : Entry) →
    IsCutOf held entries → IsFirstFrom held.buffer low buffered → IfSome buffered (λ e. key < e.key)
    → AreNewer held low key i → low ≤ key → i < length held.levels → IsSome (level_of held i) →
    ((level : List Entry) → level_of held i ≡ Some level → entry_at level key ≡ Some entry) →
    value_of (last_at entries key) ≡ entry.value
taken-level held entries buffered low key i entry cut first later newer from inside taken found =
    go (level_of held i) refl taken
  where
    unmet : (buffered : Option Entry) →
        IsFirstFrom held.buffer low buffered → IfSome buffered (λ e. key < e.key) → last_at held.buffer key ≡ None
    unmet None was before = was key from
    unmet (Some e) (above, at, was) before = was key from before

    go : (stored : Option (List Entry)) →
        level_of held i ≡ stored → IsSome stored → value_of (last_at entries key) ≡ entry.value
    go None is some = cc
    go (Some level) is some = found-level held entries i key level entry cut inside
        (unmet buffered first later) (λ j other less at. newer j other from less at) is (found level is)

pub later-key : (key other : ℕ) (buffered : Option Entry) →
    IfSome buffered (λ entry. key < entry.key) → other < key → IfSome buffered (λ entry. other < entry.key)
later-key key other None later less = tt
later-key key other (Some entry) later less = omega arith

-- a key of a level is passed, which comes before the buffer's
pub upcoming-max : (buffer : List Entry) (low key : ℕ) (upcoming : Upcoming) → IsUpcoming buffer low upcoming →
    IfSome upcoming.next (λ entry. key < entry.key) → IsUpcoming buffer (max low (key + 1)) upcoming
upcoming-max buffer low key upcoming is later = record { next = first upcoming.next is.next later; later = is.later }
  where
    first : (next : Option Entry) → IsFirstFrom buffer low next →
        IfSome next (λ entry. key < entry.key) → IsFirstFrom buffer (max low (key + 1)) next
    first None was later = λ other above. was other (omega arith)
    first (Some entry) (from, is, before) later = (omega arith, is, λ other above less. before other (omega arith) less)

-- behind the buffer's entry the level's come later
pub later-than : (buffered : Option Entry) (found : Option First) (first : First) →
    found ≡ Some first → IfSome buffered (λ entry. MatchOption found ⊥ (λ (f : First). f.key < entry.key)) →
    IfSome buffered (λ entry. first.key < entry.key)
later-than None found first is later = tt
later-than (Some entry) found first is later = subst (λ o. MatchOption o ⊥ (λ (f : First). f.key < entry.key)) is later

pub none-first : (buffered : Option Entry) (found : Option First) →
    found ≡ None → IfSome buffered (λ entry. MatchOption found ⊥ (λ (f : First). f.key < entry.key)) → buffered ≡ None
none-first None found is later = refl
none-first (Some entry) found is later =
    absurd (subst (λ o. MatchOption o ⊥ (λ (f : First). f.key < entry.key)) is later)
