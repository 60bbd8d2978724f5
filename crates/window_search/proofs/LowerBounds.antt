-- The lower bound by the order of keys that never fall: the keys before it are
-- below q, and those from it on aren't. And what it has to do with the predecessor.
-- The keys below q stand in front. So there are as many as stand before the first other one.
use Rattle.std.proofs.Common.{◌≡◌, ℕ, zero, suc, ◌+◌, ◌-◌, ◌<◌, ◌≤◌, ltb, List, length, take}
use Rattle.std.proofs.Common.{slice_index, refl, sym, ap, ◌∙◌, subst, inl, inr, arith, add-one, add-zero}
use Rattle.std.specs.Prelude.{count_by}
use Rattle.std.specs.List.{prefix_len}
use Rattle.std.specs.List.Sorted.{IsNonDecreasing}
use Rattle.std.proofs.Math.Seq.{take-length}
use Rattle.std.proofs.lemmas.Bool.{cases_lt, cases_eq, ltb-true, ltb-false, lt-ltb, le-ltb}
use Rattle.std.proofs.lemmas.List.Sums.{count_by_more_yes, count_by_more_no, prefix_len_passes}
use Rattle.std.proofs.lemmas.List.Sums.{prefix_len_stops, prefix_len-le-length}
use Rattle.window_search.specs.Searches.{lb, IsPredecessor}

-- how many of the first n keys are below q
abbrev count_of : List ℕ → ℕ → ℕ → ℕ
count_of keys q n = count_by (λ key. ltb key q) (take n keys)

count_of-front : (keys : List ℕ) (q n : ℕ) →
    n ≤ length keys → ((k : ℕ) → k < n → slice_index keys k < q) → count_of keys q n ≡ n
count_of-front keys q zero fits front = refl
count_of-front keys q (suc n) fits front =
    let rest = count_of-front keys q n (omega arith) (λ k before. front k (omega arith)) in
    ap (count_of keys q) (sym (add-one n))
    ∙ count_by_more_yes (λ key. ltb key q) keys n 0 (omega arith) (lt-ltb _ _ (front n (omega arith)))
    ∙ omega (arith, rest)

count_of-rest : (keys : List ℕ) (q r m : ℕ) →
    r + m ≤ length keys → ((k : ℕ) → r ≤ k → k < length keys → q ≤ slice_index keys k) →
    count_of keys q (r + m) ≡ count_of keys q r
count_of-rest keys q r zero fits rest = ap (count_of keys q) (add-zero r)
count_of-rest keys q r (suc m) fits rest =
    let place : r + suc m ≡ r + m + 1 = omega arith in
    ap (count_of keys q) place ∙ count_by_more_no
    (λ key. ltb key q) keys (r + m) 0 (omega arith) (le-ltb _ _ (rest (r + m) (omega arith) (omega arith)))
    ∙ count_of-rest keys q r m (omega arith) rest

-- the place before which the keys are below q, and from which on they aren't, is the lower bound
pub lb-is : (keys : List ℕ) (q r : ℕ) → r ≤ length keys → ((k : ℕ) → k < r → slice_index keys k < q) →
    ((k : ℕ) → r ≤ k → k < length keys → q ≤ slice_index keys k) → lb keys q ≡ r
lb-is keys q r fits front rest =
    let end : length keys ≡ r + (length keys - r) = omega arith in
    ap (count_by (λ key. ltb key q)) (sym (take-length keys)) ∙ ap (count_of keys q) end
    ∙ count_of-rest keys q r (length keys - r) (omega arith) rest ∙ count_of-front keys q r fits front

pub record IsLowerBound (keys : List ℕ) (q r : ℕ) : Type 0 where
  pub within : r ≤ length keys
  pub before : (k : ℕ) → k < r → slice_index keys k < q
  pub from : (k : ℕ) → r ≤ k → k < length keys → q ≤ slice_index keys k

-- the lower bound is such a place
pub IsLowerBound-lb : (keys : List ℕ) (q : ℕ) → IsNonDecreasing keys → IsLowerBound keys q (lb keys q)
IsLowerBound-lb keys q order =
    let r = prefix_len (λ key. ltb key q) keys in
    let here : IsLowerBound keys q r = at_prefix in
    subst (IsLowerBound keys q) (sym (lb-is keys q r here.within here.before here.from)) here
  where
    at_prefix : IsLowerBound keys q (prefix_len (λ key. ltb key q) keys)
    at_prefix = record {
      within = prefix_len-le-length (λ key. ltb key q) keys;
      before = λ k less. ltb-true _ _ (prefix_len_passes (λ key. ltb key q) keys k 0 less);
      from = λ k high inside.
          let stop = ltb-false _ _ (prefix_len_stops (λ key. ltb key q) keys 0 (omega arith)) in
          omega (arith, order (prefix_len (λ key. ltb key q) keys) k 0 high inside);
    }

-- there is only one predecessor
pub IsPredecessor-unique : (keys : List ℕ) (q i j : ℕ) → IsPredecessor keys q i → IsPredecessor keys q j → i ≡ j
IsPredecessor-unique keys q i j first second =
    elim (cases_eq i j) [
      | inl same ↦ same
      | inr apart ↦ elim (cases_lt i j) [
        | inl less ↦ absurd (omega (arith, first.last j less second.inside, second.at_most))
        | inr rest ↦ absurd (omega (arith, second.last i (omega arith) first.inside, first.at_most))
      ]
    ]

-- where the keys rise, the lower bound is the predecessor, where that is q, and else the place after it
pub lb-predecessor : (keys : List ℕ) (q i : ℕ) →
    ((j k : ℕ) → j < k → k < length keys → slice_index keys j < slice_index keys k) → IsPredecessor keys q i →
    (i ≤ lb keys q) × (lb keys q ≤ i + 1)
lb-predecessor keys q i rises found =
    elim (cases_lt (slice_index keys i) q) [
      | inl less ↦
          let is = lb-is keys q (i + 1) (omega (arith, found.inside))
          (before less) (λ k high inside. omega (arith, found.last k (omega arith) inside)) in
          (omega arith, omega arith)
      | inr rest ↦
          let is = lb-is keys q i (omega (arith, found.inside))
          (λ k low. omega (arith, rises k i low found.inside, found.at_most)) (from rest) in
          (omega arith, omega arith)
    ]
  where
    before : slice_index keys i < q → (k : ℕ) → k < i + 1 → slice_index keys k < q
    before less k low = elim (cases_lt k i) [
      | inl lower ↦ omega (arith, rises k i lower found.inside)
      | inr last ↦ let here : k ≡ i = omega arith in omega (arith, ap (slice_index keys) here)
    ]

    from : q ≤ slice_index keys i → (k : ℕ) → i ≤ k → k < length keys → q ≤ slice_index keys k
    from rest k high inside = elim (cases_lt i k) [
      | inl upper ↦ omega (arith, rises i k upper inside)
      | inr first ↦ let here : k ≡ i = omega arith in omega (arith, ap (slice_index keys) here)
    ]

-- a key x that was read at the place m says on which side of m they are
pub predecessor_from : (keys : List ℕ) (q m x place : ℕ) →
    m < length keys → x ≡ slice_index keys m → x ≤ q → IsPredecessor keys q place → m ≤ place
predecessor_from keys q m x place inside read at_most found = elim (cases_lt place m) [
  | inl before ↦ absurd (omega (arith, found.last m before inside))
  | inr from ↦ from
]

pub predecessor_before : (keys : List ℕ) (q m x place : ℕ) →
    IsNonDecreasing keys → x ≡ slice_index keys m → q < x → IsPredecessor keys q place → place < m
predecessor_before keys q m x place order read above found = elim (cases_lt place m) [
  | inl before ↦ before
  | inr from ↦ absurd (omega (arith, order m place 0 from found.inside, found.at_most))
]

pub lb_after : (keys : List ℕ) (q m x : ℕ) →
    IsNonDecreasing keys → m < length keys → x ≡ slice_index keys m → x < q → m < lb keys q
lb_after keys q m x order inside read below = elim (cases_lt m (lb keys q)) [
  | inl before ↦ before
  | inr from ↦ absurd (omega (arith, (IsLowerBound-lb keys q order).from m from inside))
]

pub lb_not_after : (keys : List ℕ) (q m x : ℕ) → IsNonDecreasing keys → x ≡ slice_index keys m → q ≤ x → lb keys q ≤ m
lb_not_after keys q m x order read above = elim (cases_lt m (lb keys q)) [
  | inl before ↦ absurd (omega (arith, (IsLowerBound-lb keys q order).before m before))
  | inr from ↦ from
]

-- where the first key is at most q, there is a predecessor: the place before the lower bound of the number after q
pub predecessor_exists : (keys : List ℕ) (q : ℕ) →
    IsNonDecreasing keys → 0 < length keys → slice_index keys 0 ≤ q → (place : ℕ) × IsPredecessor keys q place
predecessor_exists keys q order some first =
    let bound = IsLowerBound-lb keys (q + 1) order in
    let positive : 0 < lb keys (q + 1) = elim (cases_lt 0 (lb keys (q + 1))) [
      | inl more ↦ more
      | inr none ↦ absurd (omega (arith, bound.from 0 none some))
    ] in (
      lb keys (q + 1) - 1,
      record {
        inside = omega (arith, bound.within);
        at_most = omega (arith, bound.before (lb keys (q + 1) - 1) (omega arith));
        last = λ j after inside. omega (arith, bound.from j (omega arith) inside);
      },
    )
