-- The merges of the parts of two lists, side by side, are the merge of the lists.
use Rattle.std.proofs.Common.{◌≡◌, ℕ, suc, ◌+◌, ◌*◌, ◌/◌, ◌-◌, ◌<◌, ◌≤◌, Bool, true, false, eqb, ltb}
use Rattle.std.proofs.Common.{◌⊎◌, List, [], ◌∷◌, ◌++◌, length, take, drop, max, get_or, Option}
use Rattle.std.proofs.Common.{Some, None, refl, sym, ap, subst, inl, inr, ◌∙◌, arith, length-append}
use Rattle.std.proofs.Common.{length-take, length-drop, zero, add-mul, one-mul, zero-mul}
use Rattle.std.specs.List.{All}
use Rattle.std.specs.List.Sorted.{IsNonDecreasingBy, IsPartitionPoint}
use Rattle.std.specs.Option.{option_or}
use Rattle.std.proofs.lemmas.Bool.{cases_lt, ne_eqb, lt-ltb, le-ltb, ltb-true, ltb-false, cond-true, cond-false}
use Rattle.std.proofs.lemmas.Bool.Decides.{nat_tests}
use Rattle.std.proofs.lemmas.List.{get_or_append_left, get_or-append_right, get_or_default, get_or-take, get_or-drop}
use Rattle.std.proofs.lemmas.List.Elements.{All-contains}
use Rattle.std.proofs.lemmas.List.Folds.{find-append}
use Rattle.std.proofs.lemmas.Nat.{div-add-mod', mod_below, mul-add-lt}
use Rattle.tombstones.specs.declared.entry.Entry.{Entry}
use Rattle.tombstones.specs.Entries.{IsAscending, entry_at, kept}
use Rattle.tombstones.specs.Parts.{IsBelow, IsFrom, IsCutAt, IsBetween, IsMergedPart}
use Rattle.tombstones.specs.Parts.{merged_at, edge_of, longer_of, no_entry}
use Rattle.tombstones.proofs.CallerLemmas.{key-entry_at, Contains-entry_at, entry_at-Contains}

-- each key is below an edge, or from it on
pub cases_edge : (key : ℕ) (edge : Option ℕ) → IsBelow key edge ⊎ IsFrom key edge
cases_edge key None = inl tt
cases_edge key (Some edge) = cases_lt key edge

-- and not both
pub not_both : (key : ℕ) (edge : Option ℕ) → IsBelow key edge → IsFrom key edge → ⊥
not_both key None below from = from
not_both key (Some edge) below from = omega arith

-- a key below an edge is below one from it on
across : (x y : ℕ) (edge : Option ℕ) → IsBelow x edge → IsFrom y edge → x < y
across x y None below from = absurd from
across x y (Some edge) below from = omega arith

-- where no entry with the key is among them, the list has none
pub absent : (P : ℕ → Type 0) (entries : List Entry) (key : ℕ) →
    All (λ entry. P entry.key) entries → (P key → ⊥) → entry_at entries key ≡ None
absent P entries key all outside = go (entry_at entries key) refl
  where
    go : (found : Option Entry) → entry_at entries key ≡ found → entry_at entries key ≡ None
    go None is = is
    go (Some e) is =
        absurd (outside (subst P (key-entry_at entries key e is)
        (All-contains (λ (entry : Entry). P entry.key) entries e all (Contains-entry_at entries key e is))))

-- where the list has nothing at other keys, all entries have such keys
all_of : (P : ℕ → Type 0) (entries : List Entry) →
    IsAscending entries → ((key : ℕ) → P key ⊎ (entry_at entries key ≡ None)) → All (λ entry. P entry.key) entries
all_of P entries ascending none k d inside =
    let e = get_or entries k d in
    let found : entry_at entries e.key
    ≡ Some e = entry_at-Contains entries e ascending (k, inside, get_or_default entries k e d inside) in
    elim (none e.key) [
      | inl holds ↦ holds
      | inr nothing ↦ let apart : Some e ≡ None = sym found ∙ nothing in cc
    ]

-- a list is ascending where its two parts are, and an edge is between them
pub ascending_append : (xs ys : List Entry) (edge : Option ℕ) → IsAscending xs → IsAscending ys →
    All (λ entry. IsBelow entry.key edge) xs → All (λ entry. IsFrom entry.key edge) ys → IsAscending (xs ++ ys)
ascending_append xs ys edge first second below from i j d lt inside = elim (cases_lt j (length xs)) [
  | inl before ↦
      let at_i : get_or (xs ++ ys) i d ≡ get_or xs i d = get_or_append_left xs ys d i (omega arith) in
      let at_j : get_or (xs ++ ys) j d ≡ get_or xs j d = get_or_append_left xs ys d j before in
      rw (at_i, at_j) (first i j d lt before)
  | inr behind ↦
      let at_j : get_or (xs ++ ys) j d
      ≡ get_or ys (j - length xs) d = get_or-append_right xs ys (length xs) j d refl behind in
      let fits : j - length xs < length ys = omega (arith, length-append xs ys) in
      elim (cases_lt i (length xs)) [
        | inl before ↦
            let at_i : get_or (xs ++ ys) i d ≡ get_or xs i d = get_or_append_left xs ys d i before in
            rw (at_i, at_j) (across _ _ edge (below i d before) (from (j - length xs) d fits))
        | inr later ↦
            let at_i : get_or (xs ++ ys) i d
            ≡ get_or ys (i - length xs) d = get_or-append_right xs ys (length xs) i d refl later in
            rw (at_i, at_j) (second (i - length xs) (j - length xs) d (omega arith) fits)
      ]
]

-- and its parts are where it is
pub ascending_first : (xs ys : List Entry) → IsAscending (xs ++ ys) → IsAscending xs
ascending_first xs ys ascending i j d lt inside =
    let at_i : get_or (xs ++ ys) i d ≡ get_or xs i d = get_or_append_left xs ys d i (omega arith) in
    let at_j : get_or (xs ++ ys) j d ≡ get_or xs j d = get_or_append_left xs ys d j inside in
    rw (at_i, at_j) at (ascending i j d lt (omega (arith, length-append xs ys)))

pub ascending_second : (xs ys : List Entry) → IsAscending (xs ++ ys) → IsAscending ys
ascending_second [] ys ascending = ascending
ascending_second (x ∷ xs) ys ascending =
    ascending_second xs ys (λ i j d lt inside. ascending (suc i) (suc j) d (omega arith) (omega arith))

first_or : (a b : Option Entry) → b ≡ None → option_or a b ≡ a
first_or None b none = none
first_or (Some x) b none = refl

second_or : (a b : Option Entry) → a ≡ None → option_or a b ≡ b
second_or a b none = ap (λ x. option_or x b) none

none_in_first : (a b : Option Entry) → option_or a b ≡ None → a ≡ None
none_in_first None b none = refl
none_in_first (Some x) b none = none

entry_at-append : (xs ys : List Entry) (key : ℕ) →
    entry_at (xs ++ ys) key ≡ option_or (entry_at xs key) (entry_at ys key)
entry_at-append xs ys key = find-append (λ entry. eqb entry.key key) xs ys

-- what is between the first two of three edges and what is between
-- the last two, side by side, is what is between the outer ones
pub beside : (low mid high : Option ℕ) (whole : ℕ → Option Entry) (one two : List Entry) →
    ((key : ℕ) → IsBelow key low → IsBelow key mid) → ((key : ℕ) → IsFrom key high → IsFrom key mid)
    → IsBetween low mid whole one → IsBetween mid high whole two → IsBetween low high whole (one ++ two)
beside low mid high whole one two up down first second = record {
  ascending = ascending_append one two mid first.ascending second.ascending
      (all_of (λ key. IsBelow key mid) one first.ascending
      (λ key. elim (cases_edge key mid) [ inl below ↦ inl below | inr from ↦ inr (first.behind key from) ]))
      (all_of (λ key. IsFrom key mid) two second.ascending
      (λ key. elim (cases_edge key mid) [ inl below ↦ inr (second.before key below) | inr from ↦ inl from ]));
  inside = λ key from below. entry_at-append one two key ∙ elim (cases_edge key mid) [
    | inl lower ↦ first_or _ _ (second.before key lower) ∙ first.inside key from lower
    | inr upper ↦ second_or _ _ (first.behind key upper) ∙ second.inside key upper below
  ];
  before = λ key below. entry_at-append one two key
      ∙ second_or _ _ (first.before key below) ∙ second.before key (up key below);
  behind = λ key from. entry_at-append one two key
      ∙ second_or _ _ (first.behind key (down key from)) ∙ second.behind key from;
}

-- a list that is cut at two edges, the second cut in what is from the first on
pub between_cuts : (low high : Option ℕ) (entries skipped rest part left : List Entry) → IsAscending entries →
    IsCutAt low entries skipped rest → IsCutAt high rest part left → IsBetween low high (entry_at entries) part
between_cuts low high entries skipped rest part left ascending first second =
    let ascending_rest : IsAscending rest = ascending_second skipped rest (subst IsAscending first.whole ascending) in
    let at_entries = λ (key : ℕ). ap (λ list. entry_at list key) first.whole ∙ entry_at-append skipped rest key in
    let at_rest = λ (key : ℕ). ap (λ list. entry_at list key) second.whole ∙ entry_at-append part left key in
    record {
      ascending = ascending_first part left (subst IsAscending second.whole ascending_rest);
      inside = λ key from below.
          let skips : entry_at skipped key
          ≡ None = absent (λ k. IsBelow k low) skipped key first.below (λ lower. not_both key low lower from) in
          let leaves : entry_at left key
          ≡ None = absent (λ k. IsFrom k high) left key second.from (λ upper. not_both key high below upper) in
          sym (at_entries key ∙ second_or _ _ skips ∙ at_rest key ∙ first_or _ _ leaves);
      before = λ key below.
          let nothing : entry_at rest key
          ≡ None = absent (λ k. IsFrom k low) rest key first.from (λ from. not_both key low below from) in
          none_in_first (entry_at part key) (entry_at left key) (sym (at_rest key) ∙ nothing);
      behind = λ key from. absent (λ k. IsBelow k high) part key second.below (λ below. not_both key high below from);
    }

kept_none : (deepest : Bool) → kept deepest None ≡ None
kept_none true = refl
kept_none false = refl

-- a part has an entry of the longer list or more
step_positive : (n parts : ℕ) → 0 < parts → parts ≤ n → 0 < n / parts
step_positive n parts some few = elim (cases_lt 0 (n / parts)) [
  | inl positive ↦ positive
  | inr none ↦
      let nothing : n / parts ≡ 0 = omega arith in
      let empty : n / parts * parts ≡ 0 = ap (λ (q : ℕ). q * parts) nothing ∙ zero-mul parts in
      absurd (omega (arith, div-add-mod' n parts, mod_below n parts some))
]

-- the place before which a part begins is in the list
pub place_inside : (n parts i : ℕ) → i < parts → parts ≤ n → i * (n / parts) < n
place_inside n parts i lt few =
    let inside : i * (n / parts) + 0 < n / parts * parts =
    mul-add-lt i (n / parts) 0 parts lt (step_positive n parts (omega arith) few) in
    omega (arith, inside, div-add-mod' n parts)

-- the places rise
places_rise : (n parts i : ℕ) → i < parts → parts ≤ n → i * (n / parts) < (i + 1) * (n / parts)
places_rise n parts i lt few =
    omega (arith, add-mul i 1 (n / parts), one-mul (n / parts), step_positive n parts (omega arith) few)

edge_at : (longer : List Entry) (parts i : ℕ) →
    0 < i → i < parts → edge_of longer parts i ≡ Some (get_or longer (i * (length longer / parts)) no_entry).key
edge_at longer parts i later inside = cond-false (eqb i 0) _ _ (ne_eqb i 0 (λ same. absurd (omega arith)))
    ∙ cond-true (ltb i parts) _ _ (lt-ltb i parts inside)

edge_end : (longer : List Entry) (parts i : ℕ) → 0 < i → parts ≤ i → edge_of longer parts i ≡ None
edge_end longer parts i later past = cond-false (eqb i 0) _ _ (ne_eqb i 0 (λ same. absurd (omega arith)))
    ∙ cond-false (ltb i parts) _ _ (le-ltb i parts past)

-- the edges rise
edges_rise : (longer : List Entry) (parts i key : ℕ) → IsAscending longer →
    parts ≤ length longer → i < parts → IsFrom key (edge_of longer parts (i + 1)) → IsFrom key (edge_of longer parts i)
edges_rise longer parts zero key ascending few inside from = omega arith
edges_rise longer parts (suc i) key ascending few inside from = elim (cases_lt (suc i + 1) parts) [
  | inl more ↦
      let next = subst (IsFrom key) (edge_at longer parts (suc i + 1) (omega arith) more) from in
      let order = ascending _ _ no_entry (places_rise (length longer) parts (suc i) inside few)
      (place_inside (length longer) parts (suc i + 1) more few) in
      subst (IsFrom key) (sym (edge_at longer parts (suc i) (omega arith) inside)) (omega (arith, next, order))
  | inr last ↦ absurd (subst (IsFrom key) (edge_end longer parts (suc i + 1) (omega arith) last) from)
]

-- the longer list is ascending where both are
pub longer_ascends : (newer older : List Entry) →
    IsAscending newer → IsAscending older → IsAscending (longer_of newer older)
longer_ascends newer older new old = elim (cases_lt (length newer) (length older)) [
  | inl less ↦ subst IsAscending (sym (cond-true (ltb (length newer) (length older)) _ _ (lt-ltb _ _ less))) old
  | inr at_least ↦
      subst IsAscending (sym (cond-false (ltb (length newer) (length older)) _ _ (le-ltb _ _ at_least))) new
]

pub length-longer : (newer older : List Entry) → length (longer_of newer older) ≡ max (length newer) (length older)
length-longer newer older = grind (arith, nat_tests)

-- a part's merge is put behind those of the parts before it
pub one_part_more : (newer older : List Entry) (deepest : Bool) (parts i : ℕ) (merged part : List Entry) →
    IsAscending newer → IsAscending older → parts ≤ max (length newer) (length older) → i < parts
    → IsBetween (Some 0) (edge_of (longer_of newer older) parts i) (merged_at newer older deepest) merged →
    IsMergedPart newer older deepest parts i part
    → IsBetween
    (Some 0) (edge_of (longer_of newer older) parts (i + 1)) (merged_at newer older deepest) (merged ++ part)
one_part_more newer older deepest parts i merged part new old few inside so_far next =
    let longer = longer_of newer older in
    beside (Some 0) (edge_of longer parts i)
    (edge_of longer parts (i + 1)) (merged_at newer older deepest) merged part (λ key below. absurd (omega arith))
    (λ key from. edges_rise longer parts i key
    (longer_ascends newer older new old) (omega (arith, length-longer newer older)) inside from) so_far next

-- an ascending list's keys never fall, as a binary search needs them
pub keys_never_fall : (entries : List Entry) → IsAscending entries → IsNonDecreasingBy (λ entry. entry.key) entries
keys_never_fall entries ascending i j d le inside = elim (cases_lt i j) [
  | inl less ↦ omega (arith, ascending i j d less inside)
  | inr at_least ↦ let same : i ≡ j = omega arith in omega (arith, ap (λ k. (get_or entries k d).key) same)
]

-- what a binary search for a key finds
pub before_place : (entries : List Entry) (key n : ℕ) →
    IsPartitionPoint (λ entry. ltb entry.key key ≡ true) (λ entry. ltb entry.key key ≡ false) entries n →
    All (λ entry. entry.key < key) (take n entries)
before_place entries key n point k d inside =
    let place : k < n = omega (arith, length-take n entries) in
    rw (get_or-take n entries k d place) (ltb-true _ _ (point.0 k d (omega arith) place))

pub from_place : (entries : List Entry) (key n : ℕ) →
    IsPartitionPoint (λ entry. ltb entry.key key ≡ true) (λ entry. ltb entry.key key ≡ false) entries n →
    All (λ entry. key ≤ entry.key) (drop n entries)
from_place entries key n point k d inside =
    let place : n + k < length entries = omega (arith, length-drop n entries) in
    rw (get_or-drop n entries k d) (ltb-false _ _ (point.1 (n + k) d (omega arith) place))
