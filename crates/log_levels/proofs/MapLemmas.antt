-- The ordered map: its keys rise, and its answers follow from its values.
use Rattle.std.proofs.Common.{◌≡◌, ℕ, ◌+◌, ◌<◌, ◌≤◌, eqb, ltb, leb, Bool, true, false, not, cond, if◌then◌else◌}
use Rattle.std.proofs.Common.{List, [], ◌∷◌, length, reverse, filter, find, Option, Some, None, refl, sym, ap}
use Rattle.std.proofs.Common.{◌∙◌, subst, inl, inr, arith, nat_cmp, Less, Equal, Greater, length-append}
use Rattle.std.proofs.lemmas.List.{length-map, reverse-append}
use Rattle.std.proofs.lemmas.List.Folds.{find-append}
use Rattle.std.specs.Option.{option_or}
use Rattle.std.proofs.lemmas.List.Sums.{sum_by-cons}
use Rattle.std.proofs.lemmas.Bool.{cases_lt, cases_eq, cases_order, eq-eqb, ne_eqb, lt-ltb, le-ltb}
use Rattle.std.proofs.lemmas.Bool.{le-leb, lt-leb, leb-true, and_from, and_left, and_right}
use Rattle.std.proofs.lemmas.Bool.{and_parts, cases_Bool, both_ways, cond-true, cond-false}
use Rattle.std.specs.List.{fold}
use Rattle.std.specs.Ordering.{is_eq, match_ordering}
use Rattle.std.specs.Map.{remove_entry, keys_of}
use Rattle.std.specs.BTreeMap.{insert_entry, is_at}
use Rattle.log_levels.specs.declared.update.Update.{Update}
use Rattle.log_levels.specs.declared.update.Update.TheVariants.{Put, Del, Sweep}
use Rattle.log_levels.specs.Maps.{is_between, updated, map_after, value_at, next_from}
use Rattle.log_levels.specs.Maps.{count_between, previous_to, pairs_between}
use Rattle.log_levels.specs.Accepted.{keys_between, entries_for, entries_from, entries_of}

-- `cmp` of two numbers
cmp-less : (a b : ℕ) → a < b → nat_cmp a b ≡ Less
cmp-less a b less = cond-true (ltb a b) _ _ (lt-ltb a b less)

cmp-equal : (a b : ℕ) → a ≡ b → nat_cmp a b ≡ Equal
cmp-equal a b same = cond-false (ltb a b) _ _ (le-ltb a b (omega arith)) ∙ cond-true (eqb a b) _ _ (eq-eqb a b same)

cmp-greater : (a b : ℕ) → b < a → nat_cmp a b ≡ Greater
cmp-greater a b greater = cond-false (ltb a b) _ _ (le-ltb a b (omega arith))
    ∙ cond-false (eqb a b) _ _ (ne_eqb a b (λ same. absurd (omega arith)))

pub is_at-eqb : (a b : ℕ) → is_at (nat_cmp a) b ≡ eqb a b
is_at-eqb a b = elim (cases_order a b) [
  | inl same ↦ ap is_eq (cmp-equal a b same) ∙ sym (eq-eqb a b same)
  | inr (inl less) ↦ ap is_eq (cmp-less a b less) ∙ sym (ne_eqb a b (λ same. absurd (omega arith)))
  | inr (inr greater) ↦ ap is_eq (cmp-greater a b greater) ∙ sym (ne_eqb a b (λ same. absurd (omega arith)))
]

-- the keys rise strictly from `low` on
abbrev pub RisesFrom : ℕ → List (ℕ × ℕ) → Type 0
RisesFrom low [] = Unit {0}
RisesFrom low (pair ∷ pairs) = (low ≤ pair.0) × RisesFrom (pair.0 + 1) pairs

pub rises-lower : (low lower : ℕ) (pairs : List (ℕ × ℕ)) → lower ≤ low → RisesFrom low pairs → RisesFrom lower pairs
rises-lower low lower [] le rises = tt
rises-lower low lower (pair ∷ pairs) le (from, rest) = (omega arith, rest)

value-cons : (pair : ℕ × ℕ) (pairs : List (ℕ × ℕ)) (key : ℕ) →
    value_at (pair ∷ pairs) key ≡ (if eqb key pair.0 then Some pair.1 else value_at pairs key)
value-cons pair pairs key = ap (λ b. cond b (Some pair.1) (value_at pairs key)) (is_at-eqb key pair.0)

pub value-here : (pair : ℕ × ℕ) (pairs : List (ℕ × ℕ)) (key : ℕ) →
    key ≡ pair.0 → value_at (pair ∷ pairs) key ≡ Some pair.1
value-here pair pairs key same = value-cons pair pairs key ∙ cond-true _ _ _ (eq-eqb key pair.0 same)

pub value-later : (pair : ℕ × ℕ) (pairs : List (ℕ × ℕ)) (key : ℕ) →
    (key ≡ pair.0 → ⊥) → value_at (pair ∷ pairs) key ≡ value_at pairs key
value-later pair pairs key other = value-cons pair pairs key ∙ cond-false _ _ _ (ne_eqb key pair.0 other)

-- below the first key there is none
pub value-below : (low : ℕ) (pairs : List (ℕ × ℕ)) (key : ℕ) →
    RisesFrom low pairs → key < low → value_at pairs key ≡ None
value-below low [] key rises less = refl
value-below low (pair ∷ pairs) key (from, rest) less =
    value-later pair pairs key (λ same. absurd (omega arith)) ∙ value-below (pair.0 + 1) pairs key rest (omega arith)

-- a value put at a key
insert-order : (pair : ℕ × ℕ) (pairs : List (ℕ × ℕ)) (key value : ℕ) (order : _) → nat_cmp key pair.0 ≡ order
    → insert_entry nat_cmp (pair ∷ pairs) key value ≡ match_ordering order
    ((key, value) ∷ pair ∷ pairs) ((pair.0, value) ∷ pairs) (pair ∷ insert_entry nat_cmp pairs key value)
insert-order pair pairs key value order is =
    ap (λ o. match_ordering o
    ((key, value) ∷ pair ∷ pairs) ((pair.0, value) ∷ pairs) (pair ∷ insert_entry nat_cmp pairs key value)) is

pub rises-insert : (low : ℕ) (pairs : List (ℕ × ℕ)) (key value : ℕ) →
    RisesFrom low pairs → low ≤ key → RisesFrom low (insert_entry nat_cmp pairs key value)
rises-insert low [] key value rises le = (le, tt)
rises-insert low (pair ∷ pairs) key value (from, rest) le = elim (cases_order key pair.0) [
  | inl same ↦
      subst (RisesFrom low) (sym (insert-order pair pairs key value Equal (cmp-equal key pair.0 same))) (from, rest)
  | inr (inl less) ↦ subst (RisesFrom low)
      (sym (insert-order pair pairs key value Less (cmp-less key pair.0 less))) (le, (omega arith, rest))
  | inr (inr greater) ↦
      subst (RisesFrom low) (sym (insert-order pair pairs key value Greater (cmp-greater key pair.0 greater)))
      (from, rises-insert (pair.0 + 1) pairs key value rest (omega arith))
]

insert-equal : (pair : ℕ × ℕ) (pairs : List (ℕ × ℕ)) (key value : ℕ) →
    key ≡ pair.0 → insert_entry nat_cmp (pair ∷ pairs) key value ≡ (pair.0, value) ∷ pairs
insert-equal pair pairs key value same = insert-order pair pairs key value Equal (cmp-equal key pair.0 same)

insert-less : (pair : ℕ × ℕ) (pairs : List (ℕ × ℕ)) (key value : ℕ) →
    key < pair.0 → insert_entry nat_cmp (pair ∷ pairs) key value ≡ (key, value) ∷ pair ∷ pairs
insert-less pair pairs key value less = insert-order pair pairs key value Less (cmp-less key pair.0 less)

insert-greater : (pair : ℕ × ℕ) (pairs : List (ℕ × ℕ)) (key value : ℕ) →
    pair.0 < key → insert_entry nat_cmp (pair ∷ pairs) key value ≡ pair ∷ insert_entry nat_cmp pairs key value
insert-greater pair pairs key value greater = insert-order pair pairs key value Greater (cmp-greater key pair.0 greater)

pub value-insert-same : (pairs : List (ℕ × ℕ)) (key value q : ℕ) →
    q ≡ key → value_at (insert_entry nat_cmp pairs key value) q ≡ Some value
value-insert-same [] key value q same = value-here (key, value) [] q same
value-insert-same (pair ∷ pairs) key value q same = elim (cases_order key pair.0) [
  | inl equal ↦ ap (λ m. value_at m q) (insert-equal pair pairs key value equal)
      ∙ value-here (pair.0, value) pairs q (omega arith)
  | inr (inl less) ↦ ap (λ m. value_at m q) (insert-less pair pairs key value less)
      ∙ value-here (key, value) (pair ∷ pairs) q same
  | inr (inr greater) ↦ ap (λ m. value_at m q) (insert-greater pair pairs key value greater)
      ∙ value-later pair (insert_entry nat_cmp pairs key value) q (λ is. absurd (omega arith))
      ∙ value-insert-same pairs key value q same
]

-- the same pair first, and the same value behind it
value-both : (pair : ℕ × ℕ) (xs ys : List (ℕ × ℕ)) (q : ℕ) →
    value_at xs q ≡ value_at ys q → value_at (pair ∷ xs) q ≡ value_at (pair ∷ ys) q
value-both pair xs ys q same = ap (λ v. cond (is_at (nat_cmp q) pair.0) (Some pair.1) v) same

pub value-insert-other : (pairs : List (ℕ × ℕ)) (key value q : ℕ) →
    (q ≡ key → ⊥) → value_at (insert_entry nat_cmp pairs key value) q ≡ value_at pairs q
value-insert-other [] key value q other = value-later (key, value) [] q other
value-insert-other (pair ∷ pairs) key value q other = elim (cases_order key pair.0) [
  | inl equal ↦
      let apart : q ≡ pair.0 → ⊥ = λ is. other (omega arith) in
      ap (λ m. value_at m q) (insert-equal pair pairs key value equal)
      ∙ value-later (pair.0, value) pairs q apart ∙ sym (value-later pair pairs q apart)
  | inr (inl less) ↦ ap (λ m. value_at m q) (insert-less pair pairs key value less)
      ∙ value-later (key, value) (pair ∷ pairs) q other
  | inr (inr greater) ↦ ap (λ m. value_at m q) (insert-greater pair pairs key value greater)
      ∙ value-both pair (insert_entry nat_cmp pairs key value) pairs q (value-insert-other pairs key value q other)
]

-- a key taken out
pub remove-here : (pair : ℕ × ℕ) (pairs : List (ℕ × ℕ)) (key : ℕ) →
    key ≡ pair.0 → remove_entry (is_at (nat_cmp key)) (pair ∷ pairs) ≡ pairs
remove-here pair pairs key same = cond-true _ _ _ (is_at-eqb key pair.0 ∙ eq-eqb key pair.0 same)

remove-later : (pair : ℕ × ℕ) (pairs : List (ℕ × ℕ)) (key : ℕ) → (key ≡ pair.0 → ⊥) →
    remove_entry (is_at (nat_cmp key)) (pair ∷ pairs) ≡ pair ∷ remove_entry (is_at (nat_cmp key)) pairs
remove-later pair pairs key other = cond-false _ _ _ (is_at-eqb key pair.0 ∙ ne_eqb key pair.0 other)

pub rises-remove : (low : ℕ) (pairs : List (ℕ × ℕ)) (key : ℕ) →
    RisesFrom low pairs → RisesFrom low (remove_entry (is_at (nat_cmp key)) pairs)
rises-remove low [] key rises = tt
rises-remove low (pair ∷ pairs) key (from, rest) = elim (cases_eq key pair.0) [
  | inl same ↦ subst
      (RisesFrom low) (sym (remove-here pair pairs key same)) (rises-lower (pair.0 + 1) low pairs (omega arith) rest)
  | inr other ↦
      subst (RisesFrom low) (sym (remove-later pair pairs key other)) (from, rises-remove (pair.0 + 1) pairs key rest)
]

pub value-remove-same : (low : ℕ) (pairs : List (ℕ × ℕ)) (key q : ℕ) →
    RisesFrom low pairs → q ≡ key → value_at (remove_entry (is_at (nat_cmp key)) pairs) q ≡ None
value-remove-same low [] key q rises same = refl
value-remove-same low (pair ∷ pairs) key q (from, rest) same = elim (cases_eq key pair.0) [
  | inl here ↦ ap (λ m. value_at m q) (remove-here pair pairs key here)
      ∙ value-below (pair.0 + 1) pairs q rest (omega arith)
  | inr other ↦ ap (λ m. value_at m q) (remove-later pair pairs key other)
      ∙ value-later pair (remove_entry (is_at (nat_cmp key)) pairs) q (λ is. other (omega arith))
      ∙ value-remove-same (pair.0 + 1) pairs key q rest same
]

pub value-remove-other : (pairs : List (ℕ × ℕ)) (key q : ℕ) →
    (q ≡ key → ⊥) → value_at (remove_entry (is_at (nat_cmp key)) pairs) q ≡ value_at pairs q
value-remove-other [] key q other = refl
value-remove-other (pair ∷ pairs) key q other = elim (cases_eq key pair.0) [
  | inl here ↦ ap (λ m. value_at m q) (remove-here pair pairs key here)
      ∙ sym (value-later pair pairs q (λ is. other (omega arith)))
  | inr apart ↦ ap (λ m. value_at m q) (remove-later pair pairs key apart)
      ∙ value-both pair (remove_entry (is_at (nat_cmp key)) pairs) pairs q (value-remove-other pairs key q other)
]

-- some keys taken out
pub rises-filter : (p : ℕ × ℕ → Bool) (low : ℕ) (pairs : List (ℕ × ℕ)) →
    RisesFrom low pairs → RisesFrom low (filter p pairs)
rises-filter p low [] rises = tt
rises-filter p low (pair ∷ pairs) (from, rest) = elim (cases_Bool (p pair)) [
  | inl keeps ↦
      subst (RisesFrom low) (sym (cond-true (p pair) _ _ keeps)) (from, rises-filter p (pair.0 + 1) pairs rest)
  | inr drops ↦ subst (RisesFrom low) (sym (cond-false (p pair) _ _ drops))
      (rises-lower (pair.0 + 1) low (filter p pairs) (omega arith) (rises-filter p (pair.0 + 1) pairs rest))
]

pub value-filter-kept : (p : ℕ → Bool) (pairs : List (ℕ × ℕ)) (q : ℕ) →
    p q ≡ true → value_at (filter (λ pair. p pair.0) pairs) q ≡ value_at pairs q
value-filter-kept p [] q keeps = refl
value-filter-kept p (pair ∷ pairs) q keeps = elim (cases_Bool (p pair.0)) [
  | inl has ↦ ap (λ m. value_at m q) (cond-true (p pair.0) _ _ has)
      ∙ value-both pair (filter (λ pair. p pair.0) pairs) pairs q (value-filter-kept p pairs q keeps)
  | inr drops ↦ ap (λ m. value_at m q) (cond-false (p pair.0) _ _ drops) ∙ value-filter-kept p pairs q keeps
      ∙ sym (value-later pair pairs q (λ is. absurd (both_ways _ drops (ap p (sym is) ∙ keeps))))
]

pub value-filter-dropped : (p : ℕ → Bool) (pairs : List (ℕ × ℕ)) (q : ℕ) →
    p q ≡ false → value_at (filter (λ pair. p pair.0) pairs) q ≡ None
value-filter-dropped p [] q drops = refl
value-filter-dropped p (pair ∷ pairs) q drops = elim (cases_Bool (p pair.0)) [
  | inl has ↦ ap (λ m. value_at m q) (cond-true (p pair.0) _ _ has)
      ∙ value-later pair (filter (λ pair. p pair.0) pairs) q (λ is. absurd (both_ways _ drops (ap p is ∙ has)))
      ∙ value-filter-dropped p pairs q drops
  | inr hasnt ↦ ap (λ m. value_at m q) (cond-false (p pair.0) _ _ hasnt) ∙ value-filter-dropped p pairs q drops
]

pub rises-updated : (pairs : List (ℕ × ℕ)) (update : Update) → RisesFrom 0 pairs → RisesFrom 0 (updated pairs update)
rises-updated pairs (Put key value) rises = rises-insert 0 pairs key value rises (omega arith)
rises-updated pairs (Del key) rises = rises-remove 0 pairs key rises
rises-updated pairs (Sweep low high) rises = rises-filter _ 0 pairs rises

pub rises-fold : (pairs : List (ℕ × ℕ)) (updates : List Update) →
    RisesFrom 0 pairs → RisesFrom 0 (fold updated pairs updates)
rises-fold pairs [] rises = rises
rises-fold pairs (update ∷ updates) rises = rises-fold (updated pairs update) updates (rises-updated pairs update rises)

pub rises-after : (updates : List Update) → RisesFrom 0 (map_after updates)
unfolding map_after
rises-after updates = rises-fold [] updates tt

-- the least key from a bound on that the map has
find-first : (p : ℕ × ℕ → Bool) (pair : ℕ × ℕ) (pairs : List (ℕ × ℕ)) →
    p pair ≡ true → find p (pair ∷ pairs) ≡ Some pair
find-first p pair pairs passes = cond-true (p pair) (Some pair) (find p pairs) passes

find-later : (p : ℕ × ℕ → Bool) (pair : ℕ × ℕ) (pairs : List (ℕ × ℕ)) →
    p pair ≡ false → find p (pair ∷ pairs) ≡ find p pairs
find-later p pair pairs fails = cond-false (p pair) (Some pair) (find p pairs) fails

pub next-is : (low : ℕ) (pairs : List (ℕ × ℕ)) (q key value : ℕ) →
    RisesFrom low pairs → q ≤ key → value_at pairs key ≡ Some value
    → ((other : ℕ) → q ≤ other → other < key → value_at pairs other ≡ None) → next_from pairs q ≡ Some (key, value)
next-is low [] q key value rises le is none = cc
next-is low (pair ∷ pairs) q key value (from, rest) le is none = elim (cases_lt pair.0 q) [
  | inl below ↦ find-later (λ pair. leb q pair.0) pair pairs (lt-leb q pair.0 below)
      ∙ next-is
      (pair.0 + 1) pairs q key value rest le (sym (value-later pair pairs key (λ same. absurd (omega arith))) ∙ is)
      (λ other above less. sym (value-later pair pairs other (λ same. absurd (omega arith))) ∙ none other above less)
  | inr at_least ↦ find-first (λ pair. leb q pair.0) pair pairs (le-leb q pair.0 at_least)
      ∙ elim (cases_order pair.0 key) [
        | inl here ↦
            let same : Some pair.1 ≡ Some value = sym (value-here pair pairs key (sym here)) ∙ is in
            pair-is pair key value here same
        | inr (inl less) ↦ let apart : Some pair.1 ≡ None = sym (value-here pair pairs pair.0 refl)
            ∙ none pair.0 at_least less in cc
        | inr (inr greater) ↦
            let apart : Some value ≡ None = sym is ∙ value-later pair pairs key (λ same. absurd (omega arith))
            ∙ value-below (pair.0 + 1) pairs key rest (omega arith) in cc
      ]
]
  where
    pair-is : (pair : ℕ × ℕ) (key value : ℕ) → pair.0 ≡ key → Some pair.1 ≡ Some value → Some pair ≡ Some (key, value)
    pair-is (k, v) key value same_key same_value = cc

pub next-none : (pairs : List (ℕ × ℕ)) (q : ℕ) →
    ((other : ℕ) → q ≤ other → value_at pairs other ≡ None) → (low : ℕ) → RisesFrom low pairs → next_from pairs q ≡ None
next-none [] q none low rises = refl
next-none (pair ∷ pairs) q none low (from, rest) = elim (cases_lt pair.0 q) [
  | inl below ↦ find-later (λ pair. leb q pair.0) pair pairs (lt-leb q pair.0 below)
      ∙ next-none pairs q
      (λ other above. sym (value-later pair pairs other (λ same. absurd (omega arith))) ∙ none other above)
      (pair.0 + 1) rest
  | inr at_least ↦ let apart : Some pair.1 ≡ None = sym (value-here pair pairs pair.0 refl) ∙ none pair.0 at_least in cc
]

-- the greatest key up to a bound that the map has
previous-cons : (pair : ℕ × ℕ) (pairs : List (ℕ × ℕ)) (q : ℕ) →
    previous_to (pair ∷ pairs) q ≡ option_or (previous_to pairs q) (if leb pair.0 q then Some pair else None)
previous-cons pair pairs q = ap (find (λ (pair : ℕ × ℕ). leb pair.0 q)) (reverse-append (pair ∷ []) pairs)
    ∙ find-append (λ (pair : ℕ × ℕ). leb pair.0 q) (reverse pairs) (pair ∷ [])

pub previous-none : (low : ℕ) (pairs : List (ℕ × ℕ)) (q : ℕ) →
    RisesFrom low pairs → ((other : ℕ) → other ≤ q → value_at pairs other ≡ None) → previous_to pairs q ≡ None
previous-none low [] q rises none = refl
previous-none low (pair ∷ pairs) q (from, rest) none = elim (cases_lt q pair.0) [
  | inr at_most ↦ let apart : Some pair.1 ≡ None = sym (value-here pair pairs pair.0 refl) ∙ none pair.0 at_most in cc
  | inl above ↦ previous-cons pair pairs q
      ∙ ap (λ found. option_or found (if leb pair.0 q then Some pair else None))
      (previous-none (pair.0 + 1) pairs q rest (λ other le. value-below (pair.0 + 1) pairs other rest (omega arith)))
      ∙ cond-false (leb pair.0 q) (Some pair) None (lt-leb pair.0 q above)
]

pub previous-is : (low : ℕ) (pairs : List (ℕ × ℕ)) (q key value : ℕ) →
    RisesFrom low pairs → key ≤ q → value_at pairs key ≡ Some value
    → ((other : ℕ) → key < other → other ≤ q → value_at pairs other ≡ None) → previous_to pairs q ≡ Some (key, value)
previous-is low [] q key value rises le is none = cc
previous-is low (pair ∷ pairs) q key value (from, rest) le is none = elim (cases_order key pair.0) [
  | inl here ↦
      previous-cons pair pairs q
      ∙ ap (λ found. option_or found (if leb pair.0 q then Some pair else None))
      (previous-none (pair.0 + 1) pairs q rest (λ other at_most. elim (cases_lt pair.0 other) [
        | inl above ↦ sym (value-later pair pairs other (λ same. absurd (omega arith)))
            ∙ none other (omega arith) at_most
        | inr below ↦ value-below (pair.0 + 1) pairs other rest (omega arith)
      ]))
      ∙ cond-true (leb pair.0 q) (Some pair) None (le-leb pair.0 q (omega arith))
      ∙ pair-is pair key value (sym here) (sym (value-here pair pairs key here) ∙ is)
  | inr (inl less) ↦
      let apart : Some value ≡ None = sym is ∙ value-later pair pairs key (λ same. absurd (omega arith))
      ∙ value-below (pair.0 + 1) pairs key rest (omega arith) in cc
  | inr (inr greater) ↦
      previous-cons pair pairs q
      ∙ ap (λ found. option_or found (if leb pair.0 q then Some pair else None))
      (previous-is
      (pair.0 + 1) pairs q key value rest le (sym (value-later pair pairs key (λ same. absurd (omega arith))) ∙ is)
      (λ other above at_most. sym (value-later pair pairs other (λ same. absurd (omega arith)))
      ∙ none other above at_most))
]
  where
    pair-is : (pair : ℕ × ℕ) (key value : ℕ) → pair.0 ≡ key → Some pair.1 ≡ Some value → Some pair ≡ Some (key, value)
    pair-is (k, v) key value same_key same_value = cc

previous-later : (pair : ℕ × ℕ) (pairs : List (ℕ × ℕ)) (q : ℕ) (found : ℕ × ℕ) →
    previous_to pairs q ≡ Some found → previous_to (pair ∷ pairs) q ≡ Some found
previous-later pair pairs q found at =
    previous-cons pair pairs q ∙ ap (λ later. option_or later (if leb pair.0 q then Some pair else None)) at

previous-here : (pair : ℕ × ℕ) (pairs : List (ℕ × ℕ)) (q : ℕ) →
    previous_to pairs q ≡ None → pair.0 ≤ q → previous_to (pair ∷ pairs) q ≡ Some pair
previous-here pair pairs q none within =
    previous-cons pair pairs q ∙ ap (λ later. option_or later (if leb pair.0 q then Some pair else None)) none
    ∙ cond-true (leb pair.0 q) (Some pair) None (le-leb pair.0 q within)

-- it isn't below the keys of a map
previous-above : (low : ℕ) (pairs : List (ℕ × ℕ)) (q : ℕ) (found : ℕ × ℕ) →
    RisesFrom low pairs → previous_to pairs q ≡ Some found → low ≤ found.0
previous-above low [] q found rises at = cc
previous-above low (pair ∷ pairs) q found (from, rest) at =
    either (previous_to pairs q) refl (λ other there. previous-above (pair.0 + 1) pairs q other rest there)
  where
    key-of : Option (ℕ × ℕ) → ℕ
    key-of None = 0
    key-of (Some other) = other.0

    either : (later : Option (ℕ × ℕ)) → previous_to pairs q ≡ later →
        ((other : ℕ × ℕ) → previous_to pairs q ≡ Some other → pair.0 + 1 ≤ other.0) → low ≤ found.0
    either (Some other) there above =
        let same : other.0 ≡ found.0 = ap key-of (sym (previous-later pair pairs q other there) ∙ at) in
        omega (arith, same, above other there)
    either None there above = elim (cases_lt q pair.0) [
      | inl past ↦
          let none : None ≡ Some found =
          sym (previous-cons pair pairs q
          ∙ ap (λ later. option_or later (if leb pair.0 q then Some pair else None)) there
          ∙ cond-false (leb pair.0 q) (Some pair) None (lt-leb pair.0 q past)) ∙ at in cc
      | inr within ↦ let same : pair.0 ≡ found.0 = ap key-of (sym (previous-here pair pairs q there within) ∙ at) in
          omega (arith, same)
    ]

-- nor below one that is within the bound
pub previous-reaches : (low : ℕ) (pairs : List (ℕ × ℕ)) (q key value : ℕ) →
    RisesFrom low pairs → key ≤ q → value_at pairs key ≡ Some value
    → (found : ℕ × ℕ) × (previous_to pairs q ≡ Some found) × (key ≤ found.0)
previous-reaches low [] q key value rises le is = cc
previous-reaches low (pair ∷ pairs) q key value (from, rest) le is = elim (cases_order key pair.0) [
  | inl here ↦ go here (previous_to pairs q) refl
  | inr (inl less) ↦ let apart : Some value ≡ None = sym is
      ∙ value-below pair.0 (pair ∷ pairs) key (omega arith, rest) less in cc
  | inr (inr after) ↦
      let (found, at, reaches) = previous-reaches (pair.0 + 1) pairs q key value rest le
      (sym (value-later pair pairs key (λ same. absurd (omega arith))) ∙ is) in
      (found, previous-later pair pairs q found at, reaches)
]
  where
    go : key ≡ pair.0 → (later : Option (ℕ × ℕ)) →
        previous_to pairs q ≡ later → (found : ℕ × ℕ) × (previous_to (pair ∷ pairs) q ≡ Some found) × (key ≤ found.0)
    go here (Some other) at = (
      other,
      previous-later pair pairs q other at,
      omega (arith, here, previous-above (pair.0 + 1) pairs q other rest at),
    )
    go here None at = (pair, previous-here pair pairs q at (omega (arith, here, le)), omega (arith, here))

-- the keys from one bound to another
pub between-inside : (low high key : ℕ) → low ≤ key → key ≤ high → is_between low high key ≡ true
between-inside low high key above below = and_from _ _ (le-leb low key above) (le-leb key high below)

pub between-below : (low high key : ℕ) → key < low → is_between low high key ≡ false
between-below low high key less = and_left _ _ (lt-leb low key less)

pub between-above : (low high key : ℕ) → high < key → is_between low high key ≡ false
between-above low high key greater = and_right _ _ (lt-leb key high greater)

pub pairs-kept : (pair : ℕ × ℕ) (pairs : List (ℕ × ℕ)) (low high : ℕ) →
    is_between low high pair.0 ≡ true → pairs_between (pair ∷ pairs) low high ≡ pair ∷ pairs_between pairs low high
pairs-kept pair pairs low high inside = cond-true _ _ _ inside

pub pairs-dropped : (pair : ℕ × ℕ) (pairs : List (ℕ × ℕ)) (low high : ℕ) →
    is_between low high pair.0 ≡ false → pairs_between (pair ∷ pairs) low high ≡ pairs_between pairs low high
pairs-dropped pair pairs low high outside = cond-false _ _ _ outside

-- below the first key a bound makes no difference
pairs-same : (bound : ℕ) (pairs : List (ℕ × ℕ)) (low high : ℕ) →
    RisesFrom bound pairs → low ≤ bound → pairs_between pairs low high ≡ pairs_between pairs bound high
pairs-same bound [] low high rises le = refl
pairs-same bound (pair ∷ pairs) low high (from, rest) le =
    let rest-same : pairs_between pairs low high ≡ pairs_between pairs bound high =
    pairs-same (pair.0 + 1) pairs low high rest (omega arith)
    ∙ sym (pairs-same (pair.0 + 1) pairs bound high rest (omega arith)) in
    elim (cases_lt high pair.0) [
      | inl past ↦ pairs-dropped pair pairs low high (between-above low high pair.0 past)
          ∙ rest-same ∙ sym (pairs-dropped pair pairs bound high (between-above bound high pair.0 past))
      | inr inside ↦ pairs-kept pair pairs low high (between-inside low high pair.0 (omega arith) inside)
          ∙ ap (λ later. pair ∷ later) rest-same
          ∙ sym (pairs-kept pair pairs bound high (between-inside bound high pair.0 from inside))
    ]

pub pairs-step : (bound : ℕ) (pairs : List (ℕ × ℕ)) (low high key value : ℕ) →
    RisesFrom bound pairs → low ≤ key → key ≤ high → value_at pairs key ≡ Some value
    → ((other : ℕ) → low ≤ other → other < key → value_at pairs other ≡ None) →
    pairs_between pairs low high ≡ (key, value) ∷ pairs_between pairs (key + 1) high
pairs-step bound [] low high key value rises above below is none = cc
pairs-step bound (pair ∷ pairs) low high key value (from, rest) above below is none = elim (cases_lt pair.0 low) [
  | inl before ↦ pairs-dropped pair pairs low high (between-below low high pair.0 before)
      ∙ pairs-step (pair.0 + 1) pairs low high key value rest above below
      (sym (value-later pair pairs key (λ same. absurd (omega arith))) ∙ is)
      (λ other least less. sym (value-later pair pairs other (λ same. absurd (omega arith))) ∙ none other least less)
      ∙ ap (λ later. (key, value) ∷ later)
      (sym (pairs-dropped pair pairs (key + 1) high (between-below (key + 1) high pair.0 (omega arith))))
  | inr at_least ↦ elim (cases_order pair.0 key) [
    | inl here ↦ pairs-kept pair pairs low high (between-inside low high pair.0 at_least (omega arith))
        ∙ ap (λ first. first ∷ pairs_between pairs low high)
        (pair-is pair key value here (sym (value-here pair pairs key (sym here)) ∙ is))
        ∙ ap (λ later. (key, value) ∷ later)
        (pairs-same (key + 1) pairs low high (subst (λ k. RisesFrom (k + 1) pairs) here rest) (omega arith)
        ∙ sym (pairs-dropped pair pairs (key + 1) high (between-below (key + 1) high pair.0 (omega arith))))
    | inr (inl less) ↦ let apart : Some pair.1 ≡ None = sym (value-here pair pairs pair.0 refl)
        ∙ none pair.0 at_least less in cc
    | inr (inr greater) ↦
        let apart : Some value ≡ None = sym is ∙ value-later pair pairs key (λ same. absurd (omega arith))
        ∙ value-below (pair.0 + 1) pairs key rest (omega arith) in cc
  ]
]
  where
    pair-is : (pair : ℕ × ℕ) (key value : ℕ) → pair.0 ≡ key → Some pair.1 ≡ Some value → pair ≡ (key, value)
    pair-is (k, v) key value same_key same_value = cc

pub pairs-end : (pairs : List (ℕ × ℕ)) (low high : ℕ) →
    ((other : ℕ) → low ≤ other → other ≤ high → value_at pairs other ≡ None) →
    (bound : ℕ) → RisesFrom bound pairs → pairs_between pairs low high ≡ []
pairs-end [] low high none bound rises = refl
pairs-end (pair ∷ pairs) low high none bound (from, rest) =
    let later : pairs_between pairs low high
    ≡ [] = pairs-end pairs low high (λ other above below. elim (cases_lt other (pair.0 + 1)) [
      | inl before ↦ value-below (pair.0 + 1) pairs other rest before
      | inr after ↦ sym (value-later pair pairs other (λ same. absurd (omega arith))) ∙ none other above below
    ]) (pair.0 + 1) rest in
    elim (cases_Bool (is_between low high pair.0)) [
      | inl inside ↦
          let bounds = and_parts (leb low pair.0) (leb pair.0 high) inside in
          let apart : Some pair.1 ≡ None = sym (value-here pair pairs pair.0 refl)
          ∙ none pair.0 (leb-true _ _ bounds.0) (leb-true _ _ bounds.1) in cc
      | inr outside ↦ pairs-dropped pair pairs low high outside ∙ later
    ]

-- without keys before a number it makes no difference where they begin
pub pairs-bare : (bound : ℕ) (pairs : List (ℕ × ℕ)) (low start high : ℕ) → RisesFrom bound pairs → low ≤ start
    → ((key : ℕ) → low ≤ key → key < start → value_at pairs key ≡ None) →
    pairs_between pairs low high ≡ pairs_between pairs start high
pairs-bare bound [] low start high rises le none = refl
pairs-bare bound (pair ∷ pairs) low start high (from, rest) le none = elim (cases_lt pair.0 low) [
  | inl before ↦ pairs-dropped pair pairs low high (between-below low high pair.0 before)
      ∙ pairs-bare (pair.0 + 1) pairs low start high rest le
      (λ key above below. sym (value-later pair pairs key (λ same. absurd (omega arith))) ∙ none key above below)
      ∙ sym (pairs-dropped pair pairs start high (between-below start high pair.0 (omega arith)))
  | inr at_least ↦ elim (cases_lt pair.0 start) [
    | inl bare ↦ let apart : Some pair.1 ≡ None = sym (value-here pair pairs pair.0 refl) ∙ none pair.0 at_least bare in
        cc
    | inr behind ↦ pairs-same start (pair ∷ pairs) low high (behind, rest) le
  ]
]

pub count-pairs : (pairs : List (ℕ × ℕ)) (low high : ℕ) →
    count_between pairs low high ≡ length (pairs_between pairs low high)
count-pairs [] low high = refl
count-pairs (pair ∷ pairs) low high = elim (cases_Bool (is_between low high pair.0)) [
  | inl inside ↦ sum_by-cons (λ (pair : ℕ × ℕ). cond (is_between low high pair.0) 1 0) pair pairs
      ∙ ap (λ b. cond b 1 0 + count_between pairs low high) inside
      ∙ omega (
        arith,
        count-pairs pairs low high,
        ap (λ (l : List (ℕ × ℕ)). length l) (pairs-kept pair pairs low high inside),
      )
  | inr outside ↦ sum_by-cons (λ (pair : ℕ × ℕ). cond (is_between low high pair.0) 1 0) pair pairs
      ∙ ap (λ b. cond b 1 0 + count_between pairs low high) outside
      ∙ omega (
        arith,
        count-pairs pairs low high,
        ap (λ (l : List (ℕ × ℕ)). length l) (pairs-dropped pair pairs low high outside),
      )
]

pub count-between : (pairs : List (ℕ × ℕ)) (low high : ℕ) →
    count_between pairs low high ≡ length (keys_between pairs low high)
count-between pairs low high =
    count-pairs pairs low high ∙ sym (length-map (pairs_between pairs low high) (λ (pair : ℕ × ℕ). pair.0))

-- the keys of these pairs are those of all in the range
keys-filter : (pairs : List (ℕ × ℕ)) (low high : ℕ) →
    keys_between pairs low high ≡ filter (is_between low high) (keys_of pairs)
keys-filter [] low high = refl
keys-filter (pair ∷ pairs) low high = elim (cases_Bool (is_between low high pair.0)) [
  | inl inside ↦ ap keys_of (pairs-kept pair pairs low high inside)
      ∙ ap (λ keys. pair.0 ∷ keys) (keys-filter pairs low high)
      ∙ sym (cond-true (is_between low high pair.0) _ _ inside)
  | inr outside ↦ ap keys_of (pairs-dropped pair pairs low high outside)
      ∙ keys-filter pairs low high ∙ sym (cond-false (is_between low high pair.0) _ _ outside)
]

pub count-keys : (pairs : List (ℕ × ℕ)) (low high : ℕ) →
    count_between pairs low high ≡ length (filter (is_between low high) (keys_of pairs))
count-keys pairs low high =
    count-between pairs low high ∙ ap (λ (keys : List ℕ). length keys) (keys-filter pairs low high)

-- a map has no more pairs than entries were accepted
length-insert : (pairs : List (ℕ × ℕ)) (key value : ℕ) →
    length (insert_entry nat_cmp pairs key value) ≤ length pairs + 1
length-insert [] key value = omega arith
length-insert (pair ∷ pairs) key value = elim (cases_order key pair.0) [
  | inl same ↦ omega (arith, ap (λ (l : List (ℕ × ℕ)). length l) (insert-equal pair pairs key value same))
  | inr (inl less) ↦ omega (arith, ap (λ (l : List (ℕ × ℕ)). length l) (insert-less pair pairs key value less))
  | inr (inr greater) ↦
      omega (
        arith,
        ap (λ (l : List (ℕ × ℕ)). length l) (insert-greater pair pairs key value greater),
        length-insert pairs key value,
      )
]

length-remove : (pairs : List (ℕ × ℕ)) (key : ℕ) → length (remove_entry (is_at (nat_cmp key)) pairs) ≤ length pairs
length-remove [] key = omega arith
length-remove (pair ∷ pairs) key = elim (cases_eq key pair.0) [
  | inl same ↦ omega (arith, ap (λ (l : List (ℕ × ℕ)). length l) (remove-here pair pairs key same))
  | inr other ↦
      omega (arith, ap (λ (l : List (ℕ × ℕ)). length l) (remove-later pair pairs key other), length-remove pairs key)
]

length-filter : {A : Type 0} (p : A → Bool) (xs : List A) → length (filter p xs) ≤ length xs
length-filter p [] = omega arith
length-filter p (x ∷ xs) = elim (cases_Bool (p x)) [
  | inl keeps ↦ omega (arith, ap length (cond-true (p x) (x ∷ filter p xs) (filter p xs) keeps), length-filter p xs)
  | inr drops ↦ omega (arith, ap length (cond-false (p x) (x ∷ filter p xs) (filter p xs) drops), length-filter p xs)
]

length-updated : (pairs : List (ℕ × ℕ)) (update : Update) →
    length (updated pairs update) ≤ length pairs + length (entries_for pairs update)
length-updated pairs (Put key value) = omega (arith, length-insert pairs key value)
length-updated pairs (Del key) = omega (arith, length-remove pairs key)
length-updated pairs (Sweep low high) = omega (arith, length-filter (λ pair. not (is_between low high pair.0)) pairs)

length-fold : (pairs : List (ℕ × ℕ)) (updates : List Update) →
    length (fold updated pairs updates) ≤ length pairs + length (entries_from pairs updates)
unfolding entries_from
length-fold pairs [] = omega arith
length-fold pairs (update ∷ updates) =
    omega (
      arith,
      length-updated pairs update,
      length-fold (updated pairs update) updates,
      length-append (entries_for pairs update) (entries_from (updated pairs update) updates),
    )

pub length-after : (updates : List Update) → length (map_after updates) ≤ length (entries_of updates)
unfolding map_after
length-after updates = omega (arith, length-fold [] updates)

pub count-few : (updates : List Update) (low high : ℕ) →
    count_between (map_after updates) low high ≤ length (entries_of updates)
count-few updates low high =
    omega (
      arith,
      count-pairs (map_after updates) low high,
      length-filter (λ pair. is_between low high pair.0) (map_after updates),
      length-after updates,
    )

-- two maps with the same value at each key are the same
pub same-pairs : (low : ℕ) (xs ys : List (ℕ × ℕ)) →
    RisesFrom low xs → RisesFrom low ys → ((key : ℕ) → value_at xs key ≡ value_at ys key) → xs ≡ ys
same-pairs low [] [] xs_rise ys_rise same = refl
same-pairs low [] (y ∷ ys) xs_rise ys_rise same =
    let apart : None ≡ Some y.1 = same y.0 ∙ value-here y ys y.0 refl in cc
same-pairs low (x ∷ xs) [] xs_rise ys_rise same =
    let apart : Some x.1 ≡ None = sym (value-here x xs x.0 refl) ∙ same x.0 in cc
same-pairs low (x ∷ xs) (y ∷ ys) (x_from, xs_rise) (y_from, ys_rise) same =
    elim (cases_order x.0 y.0) [
      | inr (inl less) ↦ let apart : Some x.1 ≡ None = sym (value-here x xs x.0 refl)
          ∙ same x.0 ∙ value-below y.0 (y ∷ ys) x.0 (omega arith, ys_rise) less in cc
      | inr (inr greater) ↦ let apart : None ≡ Some y.1 =
          sym (value-below x.0 (x ∷ xs) y.0 (omega arith, xs_rise) greater) ∙ same y.0 ∙ value-here y ys y.0 refl in cc
      | inl equal ↦
          let value : Some x.1 ≡ Some y.1 = sym (value-here x xs x.0 refl) ∙ same x.0 ∙ value-here y ys x.0 equal in
          let rest : xs ≡ ys = same-pairs (x.0 + 1) xs ys xs_rise
          (subst (λ k. RisesFrom (k + 1) ys) (sym equal) ys_rise) (λ key. elim (cases_lt key (x.0 + 1)) [
            | inl before ↦ value-below (x.0 + 1) xs key xs_rise before
                ∙ sym (value-below (y.0 + 1) ys key ys_rise (omega arith))
            | inr after ↦ sym (value-later x xs key (λ is. absurd (omega arith)))
                ∙ same key ∙ value-later y ys key (λ is. absurd (omega arith))
          ]) in
          pair-same x y xs ys equal value rest
    ]
  where
    pair-same : (x y : ℕ × ℕ) (xs ys : List (ℕ × ℕ)) → x.0 ≡ y.0 → Some x.1 ≡ Some y.1 → xs ≡ ys → x ∷ xs ≡ y ∷ ys
    pair-same (k, v) (l, w) xs ys keys values rest = cc

-- up to a bound above which there is none, all are
pub pairs-all : (pairs : List (ℕ × ℕ)) (high : ℕ) →
    RisesFrom 0 pairs → ((key : ℕ) → high < key → value_at pairs key ≡ None) → pairs_between pairs 0 high ≡ pairs
pairs-all pairs high rises none = same-pairs 0 (pairs_between pairs 0 high) pairs
    (rises-filter (λ pair. is_between 0 high pair.0) 0 pairs rises) rises (λ key. elim (cases_lt high key) [
      | inl above ↦ value-filter-dropped (is_between 0 high) pairs key (between-above 0 high key above)
          ∙ sym (none key above)
      | inr at_most ↦ value-filter-kept (is_between 0 high) pairs key (between-inside 0 high key (omega arith) at_most)
    ])
