-- A stretch of numbers in which a map has no key.
use Rattle.std.proofs.Common.{◌≡◌, ℕ, ◌<◌, ◌≤◌, ◌⊎◌, List, [], ◌∷◌, ◌++◌, ◌+◌, length, take, get_or}
use Rattle.std.proofs.Common.{if◌then◌else◌, Option, Some, None, not, refl, sym, ap, ◌∙◌, subst, inl, inr, arith}
use Rattle.std.specs.Option.{option_or}
use Rattle.std.proofs.lemmas.Bool.{cases_eq, cases_lt, eq-eqb, ne_eqb, not_from_true}
use Rattle.std.proofs.lemmas.List.{take_more}
use Rattle.tombstones.specs.declared.entry.Entry.{Entry}
use Rattle.map_level.specs.Levels.{last_at}
use Rattle.map_level.proofs.LastLemmas.{last_at-append}
use Rattle.log_levels.specs.declared.bare.Bare.{Bare}
use Rattle.log_levels.specs.declared.update.Update.{Update}
use Rattle.log_levels.specs.declared.update.Update.TheVariants.{Del, Sweep}
use Rattle.log_levels.specs.Accepted.{entries_of}
use Rattle.log_levels.specs.Kept.{IsBareIn, IsIn, IsNextLive, value_of}
use Rattle.log_levels.specs.Maps.{first_of, last_of, is_between, map_after, pairs_between, updated, value_at}
use Rattle.log_levels.specs.Shapes.{Held, IsCutOf, StandsFor}
use Rattle.log_levels.proofs.EndLemmas.{first-cons, map_after-more}
use Rattle.log_levels.proofs.MapLemmas.{RisesFrom, between-inside, previous-reaches, rises-after, pairs-bare}
use Rattle.log_levels.proofs.MapLemmas.{value-below, value-filter-dropped, value-remove-other, value-remove-same}
use Rattle.log_levels.proofs.SearchLemmas.{one-value}
use Rattle.log_levels.proofs.ValueLemmas.{value-after}

-- entries behind others leave a key without a value, where neither give it one
pub value-more : (entries new : List Entry) (key : ℕ) →
    value_of (last_at entries key) ≡ None → value_of (last_at new key) ≡ None
    → value_of (last_at (entries ++ new) key) ≡ None
value-more entries new key was none =
    ap value_of (last_at-append entries new key) ∙ either (last_at new key) (last_at entries key) none was
  where
    either : (last before : Option Entry) →
        value_of last ≡ None → value_of before ≡ None → value_of (option_or last before) ≡ None
    either None before none was = was
    either (Some entry) before none was = none

-- an entry that is a deletion, or of another key, gives a key no value
value-one : (entry : Entry) (key : ℕ) →
    (entry.value ≡ None) ⊎ (key ≡ entry.key → ⊥) → value_of (last_at (entry ∷ []) key) ≡ None
value-one entry key none = elim (cases_eq entry.key key) [
  | inl same ↦ ap (λ b. value_of (if b then Some entry else None)) (eq-eqb entry.key key same) ∙ elim none [
    | inl deletion ↦ deletion
    | inr other ↦ absurd (other (sym same))
  ]
  | inr other ↦ ap (λ b. value_of (if b then Some entry else None)) (ne_eqb entry.key key other)
]

-- one entry more
pub value-behind : (entries : List Entry) (k : ℕ) (d : Entry) (key : ℕ) →
    k < length entries → value_of (last_at (take k entries) key) ≡ None
    → ((get_or entries k d).value ≡ None)
    ⊎ (key ≡ (get_or entries k d).key → ⊥) → value_of (last_at (take (k + 1) entries) key) ≡ None
value-behind entries k d key inside was none =
    ap (λ list. value_of (last_at list key)) (take_more entries k d inside)
    ∙ value-more (take k entries) (get_or entries k d ∷ []) key was (value-one (get_or entries k d) key none)

-- what is bare by some entries that a map is a cut of is so by all
pub bare-one : (held : Held) (bare : Bare) (entries : List Entry) → IsCutOf held entries
    → ((key : ℕ) → IsIn bare key → value_of (last_at entries key) ≡ None) → IsBareIn held bare
bare-one held bare entries cut none other key other_cut inside =
    one-value held other entries key other_cut cut ∙ none key inside

-- more entries
pub bare-more : (was now : Held) (bare left : Bare) (entries new : List Entry) →
    IsCutOf was entries → IsCutOf now (entries ++ new)
    → IsBareIn was bare →
    ((key : ℕ) → IsIn left key → IsIn bare key × (value_of (last_at new key) ≡ None)) → IsBareIn now left
bare-more was now bare left entries new cut more none kept = bare-one now left (entries ++ new) more (λ key inside.
    let (before, put) = kept key inside in
    value-more entries new key (none entries key cut before) put)

-- a map without a value at a key has none by its entries
pub value-none : (updates : List Update) (key : ℕ) →
    value_at (map_after updates) key ≡ None → value_of (last_at (entries_of updates) key) ≡ None
value-none updates key none = sym (value-after updates key) ∙ none

-- after a sweep no key is in its range
pub value-swept : (updates : List Update) (low high key : ℕ) →
    low ≤ key → key ≤ high → value_at (map_after (updates ++ Sweep low high ∷ [])) key ≡ None
value-swept updates low high key above below =
    ap (λ map. value_at map key) (map_after-more updates (Sweep low high))
    ∙ value-filter-dropped (λ k. not (is_between low high k))
    (map_after updates) key (not_from_true _ (between-inside low high key above below))

-- below the least key there is none
first-below : (pairs : List (ℕ × ℕ)) (found : ℕ × ℕ) (other : ℕ) →
    RisesFrom 0 pairs → Some found ≡ first_of pairs → other < found.0 → value_at pairs other ≡ None
first-below [] found other rises is less = cc
first-below (pair ∷ pairs) found other (from, rest) is less =
    let same : found.0 ≡ pair.0 = ap key-of (is ∙ first-cons pair pairs) in
    value-below pair.0 (pair ∷ pairs) other (omega arith, rest) (omega (arith, less, same))
  where
    key-of : Option (ℕ × ℕ) → ℕ
    key-of None = 0
    key-of (Some pair) = pair.0

-- once the least key is taken, none is left up to it
pub value-taken : (updates : List Update) (key value other : ℕ) →
    Some (key, value) ≡ first_of (map_after updates) → other ≤ key
    → value_at (map_after (updates ++ Del key ∷ [])) other ≡ None
value-taken updates key value other is at_most =
    ap (λ map. value_at map other) (map_after-more updates (Del key)) ∙ elim (cases_eq other key) [
      | inl same ↦ value-remove-same 0 (map_after updates) key other (rises-after updates) same
      | inr apart ↦ value-remove-other (map_after updates) key other apart
          ∙ first-below (map_after updates) (key, value) other (rises-after updates) is (below apart)
    ]
  where
    below : (other ≡ key → ⊥) → other < key
    below apart = elim (cases_lt other key) [
      | inl less ↦ less
      | inr above ↦ absurd (apart (omega arith))
    ]

-- once the greatest key is taken, none is left from it on
pub value-taken-last : (updates : List Update) (key value other : ℕ) →
    Some (key, value) ≡ last_of (map_after updates) → key ≤ other → other ≤ 18446744073709551615
    → value_at (map_after (updates ++ Del key ∷ [])) other ≡ None
value-taken-last updates key value other is at_least within =
    ap (λ map. value_at map other) (map_after-more updates (Del key)) ∙ elim (cases_eq other key) [
      | inl same ↦ value-remove-same 0 (map_after updates) key other (rises-after updates) same
      | inr apart ↦ value-remove-other (map_after updates) key other apart
          ∙ above apart (value_at (map_after updates) other) refl
    ]
  where
    key-of : Option (ℕ × ℕ) → ℕ
    key-of None = 0
    key-of (Some pair) = pair.0

    above : (other ≡ key → ⊥) →
        (found : Option ℕ) → value_at (map_after updates) other ≡ found → value_at (map_after updates) other ≡ None
    above apart None there = there
    above apart (Some there_value) there =
        let (found, at, reaches) = previous-reaches 0
        (map_after updates) 18446744073709551615 other there_value (rises-after updates) within there in
        let same : key ≡ found.0 = ap key-of (is ∙ at) in
        absurd (apart (omega (arith, same, reaches, at_least)))

-- what a search finds behind bare numbers is what one finds from before them
pub next-bare : (entries : List Entry) (from start : ℕ) (found : Option (ℕ × ℕ)) → from ≤ start
    → ((key : ℕ) → from ≤ key → key < start → value_of (last_at entries key) ≡ None) →
    IsNextLive entries start found → IsNextLive entries from found
next-bare entries from start None le bare none = λ key above. elim (cases_lt key start) [
  | inl before ↦ bare key above before
  | inr behind ↦ none key behind
]
next-bare entries from start (Some (key, value)) le bare (above, is, none) = (
  omega arith,
  is,
  λ other low less. elim (cases_lt other start) [
    | inl before ↦ bare other low before
    | inr behind ↦ none other behind less
  ],
)

-- so are the pairs of a range
pub range-bare : (updates : List Update) (from start high : ℕ) → from ≤ start
    → ((key : ℕ) → from ≤ key → key < start → value_of (last_at (entries_of updates) key) ≡ None)
    → pairs_between (map_after updates) from high ≡ pairs_between (map_after updates) start high
range-bare updates from start high le bare = pairs-bare 0 (map_after updates) from start high
    (rises-after updates) le (λ key above below. value-after updates key ∙ bare key above below)
