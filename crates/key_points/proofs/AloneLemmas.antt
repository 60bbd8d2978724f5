-- Keys that don't repeat are their distinct ones and the x of their points.
--
-- Main results: `distinct_of-alone`, since a list that loses no
-- key to its repeats has none, and `xs_of-alone`, since a key that
-- stands once isn't closed.
use Rattle.std.proofs.Common.{◌≡◌, ℕ, suc, ◌+◌, ◌<◌, ◌≤◌, List, [], ◌∷◌, ◌++◌, length}
use Rattle.std.proofs.Common.{slice_index, false, eqb, ltb, refl, ap, ◌∙◌, subst, arith, inl, inr}
use Rattle.std.proofs.lemmas.Bool.{cases_lt, cond-true, cond-false, lt-ltb, le-ltb}
use Rattle.std.proofs.lemmas.Bool.Decides.{nat_tests}
use Rattle.std.specs.List.{dedup_from, flat_map}
use Rattle.std.specs.List.Sorted.{IsNonDecreasing, IsStrictlyIncreasing, IsSorted}
use Rattle.std.specs.Ordering.{nat_cmp, is_lt}
use Rattle.std.proofs.Common.{get_or}
use Rattle.std.proofs.lemmas.Map.Keys.{IsStrictlyIncreasing-dedup}
use Rattle.window_search.proofs.CallerLemmas.{lb-is}
use Rattle.window_search.specs.Searches.{lb}
use Rattle.exact_cross.proofs.CallerLemmas.{slice_index-rises}
use Rattle.key_points.specs.KeyPoints.{distinct_of, first_of, with_closing, is_closed, times, xs_of}
use Rattle.key_points.proofs.DistinctLemmas.{times-lb}
use Rattle.key_points.proofs.GroupLemmas.{first_fails}

from-short : (k : ℕ) (xs : List ℕ) → length (dedup_from eqb k xs) ≤ length xs + 1
from-short k [] = omega arith
from-short k (x ∷ xs) = grind (arith, nat_tests, from-short k xs, from-short x xs)

pub distinct_of-few : (keys : List ℕ) → length (distinct_of keys) ≤ length keys
distinct_of-few [] = omega arith
distinct_of-few (k ∷ keys) = omega (arith, from-short k keys)

from-whole : (k : ℕ) (xs : List ℕ) → length xs + 1 ≤ length (dedup_from eqb k xs) → dedup_from eqb k xs ≡ k ∷ xs
from-whole k [] long = refl
from-whole k (x ∷ xs) long = grind (arith, nat_tests, from-short k xs, from-whole x xs)

pub distinct_of-alone : (keys : List ℕ) → length keys ≤ length (distinct_of keys) → distinct_of keys ≡ keys
distinct_of-alone [] long = refl
distinct_of-alone (k ∷ keys) long = from-whole k keys (omega (arith, long))

-- nor does a list in which each key is below the next one
rising-whole : (k : ℕ) (xs : List ℕ) → IsStrictlyIncreasing (k ∷ xs) → dedup_from eqb k xs ≡ k ∷ xs
rising-whole k [] rises = refl
rising-whole k (x ∷ xs) rises =
    let less : k < x = rises 0 (omega arith) in
    let rest : IsStrictlyIncreasing (x ∷ xs) = λ i inside.
    let next : suc i + 1 ≡ suc (i + 1) = omega arith in
    subst (λ j. slice_index (x ∷ xs) i < slice_index (k ∷ x ∷ xs) j) next (rises (suc i) (omega arith)) in
    grind (arith, nat_tests, less, rising-whole x xs rest)

pub distinct_of-rising : (keys : List ℕ) → IsStrictlyIncreasing keys → distinct_of keys ≡ keys
distinct_of-rising [] rises = refl
distinct_of-rising (k ∷ keys) rises = rising-whole k keys rises

not_less : (a b : ℕ) → a ≤ b → is_lt (nat_cmp b a) ≡ false
not_less a b le = grind (arith, nat_tests)

sorted : (xs : List ℕ) → IsNonDecreasing xs → IsSorted nat_cmp xs
sorted xs never_falls k d low high =
    not_less (get_or xs k d) (get_or xs (k + 1) d) (never_falls k (k + 1) d (omega arith) high)

pub IsStrictlyIncreasing-distinct_of : (keys : List ℕ) → IsNonDecreasing keys → IsStrictlyIncreasing (distinct_of keys)
IsStrictlyIncreasing-distinct_of keys order = IsStrictlyIncreasing-dedup keys (sorted keys order)

-- points without a closing one
singles : (keys xs : List ℕ) →
    ((j : ℕ) → j < length xs → is_closed keys (slice_index xs j) ≡ false) → flat_map (with_closing keys) xs ≡ xs
singles keys [] none = refl
singles keys (x ∷ xs) none =
    let first : with_closing keys x ≡ x ∷ [] = rw (none 0 (omega arith)) refl in
    ap (λ (l : List ℕ). l ++ flat_map (with_closing keys) xs) first
    ∙ ap (λ (l : List ℕ). x ∷ l) (singles keys xs (λ j inside. none (suc j) (omega (arith, inside))))

-- of rising keys as many are below one as stand before it
module _ (keys : List ℕ) (rises : IsStrictlyIncreasing keys) (j : ℕ) (inside : j < length keys) where
  pub lb-rising : lb keys (slice_index keys j) ≡ j
  lb-rising = lb-is keys
      (slice_index keys j) j (omega (arith, inside)) (λ k low. slice_index-rises keys k j rises low inside) from
    where
      from : (k : ℕ) → j ≤ k → k < length keys → slice_index keys j ≤ slice_index keys k
      from k low within = elim (cases_lt j k) [
        | inl less ↦ omega (arith, slice_index-rises keys j k rises less within)
        | inr rest ↦ let same : k ≡ j = omega arith in omega (arith, ap (slice_index keys) same)
      ]

  lb-rising_next : lb keys (slice_index keys j + 1) ≡ j + 1
  lb-rising_next = lb-is keys (slice_index keys j + 1) (j + 1) (omega (arith, inside)) up_to
      (λ k low within. omega (arith, slice_index-rises keys j k rises (omega (arith, low)) within))
    where
      up_to : (k : ℕ) → k < j + 1 → slice_index keys k < slice_index keys j + 1
      up_to k low = elim (cases_lt k j) [
        | inl less ↦ omega (arith, slice_index-rises keys k j rises less inside)
        | inr rest ↦ let same : k ≡ j = omega arith in omega (arith, ap (slice_index keys) same)
      ]

  -- a rising key stands once
  once_closed : is_closed keys (slice_index keys j) ≡ false
  once_closed = first_fails (times keys (slice_index keys j))
      (slice_index keys j) _ (omega (arith, times-lb keys (slice_index keys j), lb-rising, lb-rising_next))

pub xs_of-alone : (keys : List ℕ) → IsNonDecreasing keys → distinct_of keys ≡ keys → xs_of keys ≡ keys
xs_of-alone keys order alone =
    let rises = subst (λ (xs : List ℕ). IsStrictlyIncreasing xs) alone (IsStrictlyIncreasing-distinct_of keys order) in
    ap (flat_map (with_closing keys)) alone ∙ singles keys keys (once_closed keys rises)

-- the first position of the j-th distinct key
pub first_of-inner : (keys : List ℕ) (j : ℕ) →
    j < length (distinct_of keys) → first_of keys j ≡ lb keys (slice_index (distinct_of keys) j)
first_of-inner keys j inside =
    cond-true (ltb j (length (distinct_of keys))) _ _ (lt-ltb j (length (distinct_of keys)) inside)

pub first_of-last : (keys : List ℕ) (j : ℕ) → length (distinct_of keys) ≤ j → first_of keys j ≡ length keys
first_of-last keys j past =
    cond-false (ltb j (length (distinct_of keys))) _ _ (le-ltb j (length (distinct_of keys)) past)

pub first_of-alone : (keys : List ℕ) (j : ℕ) →
    IsNonDecreasing keys → distinct_of keys ≡ keys → j ≤ length keys → first_of keys j ≡ j
first_of-alone keys j order alone within = elim (cases_lt j (length keys)) [
  | inl inside ↦
      let rises =
      subst (λ (xs : List ℕ). IsStrictlyIncreasing xs) alone (IsStrictlyIncreasing-distinct_of keys order) in
      first_of-inner keys j (omega (arith, ap length alone))
      ∙ ap (λ (xs : List ℕ). lb keys (slice_index xs j)) alone ∙ lb-rising keys rises j inside
  | inr last ↦ first_of-last keys j (omega (arith, ap length alone)) ∙ omega arith
]
