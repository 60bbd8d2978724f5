-- The keys of a level, and what it has at a key.
use Rattle.std.proofs.Common.{◌≡◌, ℕ, ◌+◌, ◌-◌, ◌<◌, ◌≤◌, List, length, slice_index_or}
use Rattle.std.proofs.Common.{Option, Some, None, refl, sym, ap, ◌∙◌, inl, inr, arith}
use Rattle.std.proofs.lemmas.List.{length-map, get_or-map, get_or_default}
use Rattle.std.proofs.lemmas.Bool.{cases_lt, cases_order}
use Rattle.std.specs.List.Sorted.{IsNonDecreasing}
use Rattle.tombstones.specs.declared.entry.Entry.{Entry}
use Rattle.tombstones.specs.Entries.{IsAscending, entry_at}
use Rattle.tombstones.proofs.CallerLemmas.{key-entry_at, Contains-entry_at, entry_at-Contains}
use Rattle.window_search.specs.Searches.{lb}
use Rattle.window_search.proofs.CallerLemmas.{IsLowerBound-lb, lb-is}
use Rattle.map_level.specs.Levels.{level_keys}

-- what a read of a list of entries gives past its end
abbrev pub no_entry : Entry
no_entry = record { key = 0; value = None }

pub length-level_keys : (entries : List Entry) → length (level_keys entries) ≡ length entries
length-level_keys entries = length-map entries (λ entry. entry.key)

pub key-at : (entries : List Entry) (i d : ℕ) (e : Entry) →
    i < length entries → slice_index_or (level_keys entries) i d ≡ (slice_index_or entries i e).key
key-at entries i d e inside = get_or-map (λ (entry : Entry). entry.key) entries i e d inside

pub keys-rise : (entries : List Entry) → IsAscending entries → (i j d : ℕ) → i < j →
    j < length (level_keys entries) → slice_index_or (level_keys entries) i d < slice_index_or (level_keys entries) j d
keys-rise entries ascending i j d less inside =
    let fits : j < length entries = omega (arith, length-level_keys entries) in
    omega (
      arith,
      key-at entries i d no_entry (omega arith),
      key-at entries j d no_entry fits,
      ascending i j no_entry less fits,
    )

pub keys-never_fall : (entries : List Entry) → IsAscending entries → IsNonDecreasing (level_keys entries)
keys-never_fall entries ascending i j d le inside = elim (cases_lt i j) [
  | inl less ↦ omega (arith, keys-rise entries ascending i j d less inside)
  | inr at_least ↦ let same : i ≡ j = omega arith in
      omega (arith, ap (λ k. slice_index_or (level_keys entries) k d) same)
]

-- what stands at the lower bound of a key: the entry with the key, or no entry has it
pub found-at : (entries : List Entry) (key place : ℕ) (e : Entry) → IsAscending entries →
    place < length entries → slice_index_or entries place e ≡ e → e.key ≡ key → entry_at entries key ≡ Some e
found-at entries key place e ascending inside is same =
    ap (entry_at entries) (sym same) ∙ entry_at-Contains entries e ascending (place, inside, is)

pub missing-at : (entries : List Entry) (key : ℕ) → IsAscending entries
    → (lb (level_keys entries) key < length entries →
    slice_index_or (level_keys entries) (lb (level_keys entries) key) 0 ≡ key → ⊥) →
    entry_at entries key ≡ None
missing-at entries key ascending apart = go (entry_at entries key) refl
  where
    go : (found : Option Entry) → entry_at entries key ≡ found → entry_at entries key ≡ None
    go None is = is
    go (Some e) is =
        let (i, inside, at) = Contains-entry_at entries key e is in
        let here : slice_index_or (level_keys entries) i 0 ≡ key = key-at entries i 0 e inside
        ∙ ap (λ (x : Entry). x.key) at ∙ key-entry_at entries key e is in
        let bound = IsLowerBound-lb (level_keys entries) key (keys-never_fall entries ascending) in
        let count = length-level_keys entries in
        let place = lb (level_keys entries) key in
        elim (cases_order i place) [
          | inl same ↦
              absurd (apart (omega arith) (ap (λ k. slice_index_or (level_keys entries) k 0) (sym same) ∙ here))
          | inr (inl less) ↦ absurd (omega (arith, bound.before i less))
          | inr (inr greater) ↦ absurd
              (omega (
                arith,
                bound.from place (omega arith) (omega arith),
                keys-rise entries ascending place i 0 greater (omega arith),
              ))
        ]

-- where all keys are below, or the entry at the lower bound has another key
pub missing-past : (entries : List Entry) (key : ℕ) →
    IsAscending entries → length entries ≤ lb (level_keys entries) key → entry_at entries key ≡ None
missing-past entries key ascending end = missing-at entries key ascending (λ inside is. absurd (omega arith))

-- what is read at the lower bound of a key: the entry with the key, or another
pub entry-found : (list entries : List Entry) (key place : ℕ) →
    list ≡ entries → IsAscending entries → place < length list → (slice_index_or list place no_entry).key ≡ key
    → Some (slice_index_or list place no_entry) ≡ entry_at entries key
entry-found list entries key place same ascending inside here =
    let e = slice_index_or list place no_entry in
    let size = ap (λ (l : List Entry). length l) same in
    let fits : place < length entries = omega (arith, inside, size) in
    let is : slice_index_or entries place e ≡ e = get_or_default entries place e no_entry fits
    ∙ ap (λ (l : List Entry). slice_index_or l place no_entry) (sym same) in
    sym (found-at entries key place e ascending fits is here)

pub entry-missing : (list entries : List Entry) (key place : ℕ) →
    list ≡ entries → IsAscending entries → place ≡ lb (level_keys entries) key
    → ((slice_index_or list place no_entry).key ≡ key → ⊥) → None ≡ entry_at entries key
entry-missing list entries key place same ascending at other =
    sym (missing-at entries key ascending
    (λ inside here. other
    (ap (λ (l : List Entry). (slice_index_or l place no_entry).key) same
    ∙ ap (λ k. (slice_index_or entries k no_entry).key) at
    ∙ sym (key-at entries (lb (level_keys entries) key) 0 no_entry inside) ∙ here)))

-- from one place on the keys are at or above a bound, and before it
-- below: a key between the bound and the first of them is missing
pub missing-between : (entries : List Entry) (from j : ℕ) → IsAscending entries → from ≤ j
    → (lb (level_keys entries) from < length entries →
    j < slice_index_or (level_keys entries) (lb (level_keys entries) from) 0) →
    entry_at entries j ≡ None
missing-between entries from j ascending le below = go (entry_at entries j) refl
  where
    go : (found : Option Entry) → entry_at entries j ≡ found → entry_at entries j ≡ None
    go None is = is
    go (Some e) is =
        let (i, inside, at) = Contains-entry_at entries j e is in
        let here : slice_index_or (level_keys entries) i 0 ≡ j = key-at entries i 0 e inside
        ∙ ap (λ (x : Entry). x.key) at ∙ key-entry_at entries j e is in
        let bound = IsLowerBound-lb (level_keys entries) from (keys-never_fall entries ascending) in
        let count = length-level_keys entries in
        let place = lb (level_keys entries) from in
        elim (cases_lt i place) [
          | inl less ↦ absurd (omega (arith, bound.before i less))
          | inr at_least ↦ absurd
              (omega (arith, below (omega arith), keys-never_fall entries ascending place i 0 at_least (omega arith)))
        ]

-- no key is between the bound and that key
pub key-between : (list entries : List Entry) (from place j : ℕ) →
    list ≡ entries → IsAscending entries → place ≡ lb (level_keys entries) from → from ≤ j
    → (place < length list → j < (slice_index_or list place no_entry).key) → entry_at entries j ≡ None
key-between list entries from place j same ascending at le below =
    let size = ap (λ (l : List Entry). length l) same in
    missing-between entries from j ascending le (λ inside.
    omega (
      arith,
      below (omega (arith, inside, at, size)),
      key-at entries (lb (level_keys entries) from) 0 no_entry inside,
      ap (λ (l : List Entry). (slice_index_or l place no_entry).key) same,
      ap (λ k. (slice_index_or entries k no_entry).key) at,
    ))

-- what is read at a place
pub key-read : (list entries : List Entry) (place : ℕ) → list ≡ entries → place < length list →
    (place < length entries) × (slice_index_or (level_keys entries) place 0 ≡ (slice_index_or list place no_entry).key)
key-read list entries place same inside =
    let fits : place < length entries = omega (arith, inside, ap (λ (l : List Entry). length l) same) in (
      fits,
      key-at entries place 0 no_entry fits
          ∙ ap (λ (l : List Entry). (slice_index_or l place no_entry).key) (sym same),
    )

-- an entry that stands at a bound's place isn't below the bound, and behind it comes the place of the next key
pub place-passed : (entries : List Entry) (from place key : ℕ) → IsAscending entries →
    place ≡ lb (level_keys entries) from → place < length entries → slice_index_or (level_keys entries) place 0 ≡ key
    → (from ≤ key) × (place + 1 ≡ lb (level_keys entries) (key + 1))
place-passed entries from place key ascending at inside is =
    let bound = IsLowerBound-lb (level_keys entries) from (keys-never_fall entries ascending) in
    let count = length-level_keys entries in
    let above : from ≤ key = omega (arith, is, bound.from place (omega arith) (omega arith)) in (
      above,
      sym (lb-is (level_keys entries) (key + 1) (place + 1) (omega arith) (λ k before. elim (cases_lt k place) [
        | inl less ↦ omega (arith, bound.before k (omega arith))
        | inr at_least ↦ let same : place ≡ k = omega arith in
            omega (arith, is, ap (λ i. slice_index_or (level_keys entries) i 0) same)
      ]) (λ k past inside'. omega (arith, is, keys-rise entries ascending place k 0 (omega arith) inside'))),
    )

-- before a bound's place keys are below the bound
pub key-before : (list entries : List Entry) (bound place : ℕ) →
    list ≡ entries → IsAscending entries → place ≡ lb (level_keys entries) bound →
    (place ≤ length list) × (0 < place → (slice_index_or list (place - 1) no_entry).key < bound)
key-before list entries bound place same ascending at =
    let lower = IsLowerBound-lb (level_keys entries) bound (keys-never_fall entries ascending) in
    let size = ap (λ (l : List Entry). length l) same in
    let count = length-level_keys entries in (
      omega (arith, lower.within),
      λ some.
          omega (
            arith,
            lower.before (place - 1) (omega arith),
            key-at entries (place - 1) 0 no_entry (omega (arith, lower.within)),
            ap (λ (l : List Entry). (slice_index_or l (place - 1) no_entry).key) same,
          ),
    )
