-- The points of a file's keys.
--
-- Main results: the x rise (`xs-rise`), the y never fall
-- (`ys-never_fall`), there are no more points than keys (`xs-few`), the
-- first x is the first key; a number between two x that is no x
-- has no key between (`next_of_point`), so that the lower bound of
-- a question is the y of the last point at or before it or the
-- next number; and the points leave no gap (`points-no_gaps`).
use Rattle.std.proofs.Common.{◌≡◌, ◌≢◌, ◌⊎◌, inl, inr, ℕ, zero, suc, ◌+◌, ◌-◌, ◌<◌, ◌≤◌, List, [], ◌∷◌, ◌++◌, length}
use Rattle.std.proofs.Common.{slice_index, Bool, true, false, refl, sym, ap, ◌∙◌, subst, arith, eqb, ltb, ◌&&◌, cond}
use Rattle.std.proofs.lemmas.Bool.{cases_lt, cases_eq}
use Rattle.std.proofs.lemmas.Bool.Decides.{nat_tests}
use Rattle.std.proofs.lemmas.List.{length-append, length-map, get_or-map}
use Rattle.std.specs.List.{flat_map, dedup_from}
use Rattle.std.specs.List.Sorted.{IsNonDecreasing, IsStrictlyIncreasing}
use Rattle.std.proofs.lemmas.List.Sums.{sum_by-cons}
use Rattle.exact_cross.proofs.CallerLemmas.{slice_index-rises, IsNonDecreasing-from_neighbours}
use Rattle.window_search.specs.Searches.{lb}
use Rattle.window_search.proofs.CallerLemmas.{lb-is}
use Rattle.key_points.specs.KeyPoints.{times, is_closed, with_closing, xs_of, ys_of}
use Rattle.key_points.proofs.DistinctLemmas.{times-lb}
use Rattle.key_points.proofs.Rows.{IsIn, NeverFallsFrom, RisesFrom, NeverFallsFrom-in}
use Rattle.key_points.proofs.Rows.{IsStrictlyIncreasing-from, IsIn-place, IsIn-left, IsIn-right, IsIn-append}

bool_cases : (b : Bool) → (b ≡ true) ⊎ (b ≡ false)
bool_cases true = inl refl
bool_cases false = inr refl

-- ---- closing points

record IsClosed (keys : List ℕ) (key : ℕ) : Type 0 where
  repeats : 1 < times keys key
  low : key < 18446744073709551615
  apart : times keys (key + 1) ≡ 0

closed_by_tests : (t key s : ℕ) →
    (ltb 1 t && (ltb key 18446744073709551615 && eqb s 0)) ≡ true → (1 < t) × (key < 18446744073709551615) × (s ≡ 0)
closed_by_tests t key s passes = grind (arith, nat_tests)

tests_by_closed : (t key s : ℕ) →
    1 < t → key < 18446744073709551615 → s ≡ 0 → (ltb 1 t && (ltb key 18446744073709551615 && eqb s 0)) ≡ true
tests_by_closed t key s many low none = grind (arith, nat_tests)

IsClosed-in : (keys : List ℕ) (key : ℕ) → is_closed keys key ≡ true → IsClosed keys key
IsClosed-in keys key passes = let parts = closed_by_tests (times keys key) key (times keys (key + 1)) passes in
    record { repeats = parts.0; low = parts.1; apart = parts.2 }

IsClosed-out : (keys : List ℕ) (key : ℕ) → IsClosed keys key → is_closed keys key ≡ true
IsClosed-out keys key closed =
    tests_by_closed (times keys key) key (times keys (key + 1)) closed.repeats closed.low closed.apart

-- a key's points are the key, and where it is closed the next number
with_closing-cases : (keys : List ℕ) (key : ℕ) →
    (with_closing keys key ≡ key ∷ []) ⊎ ((with_closing keys key ≡ key ∷ (key + 1) ∷ []) × IsClosed keys key)
with_closing-cases keys key = elim (bool_cases (is_closed keys key)) [
  | inl passes ↦ inr (rw passes refl, IsClosed-in keys key passes)
  | inr fails ↦ inl (rw fails refl)
]

-- ---- keys that stand in a list

abbrev counted : Bool → ℕ
counted b = cond b 1 0

times-none : (key : ℕ) (xs : List ℕ) (low : ℕ) → NeverFallsFrom low xs → key < low → times xs key ≡ 0
times-none key [] low order below = refl
times-none key (x ∷ xs) low order below =
    omega (
      arith,
      times-none key xs x order.1 (omega (arith, order.0)),
      sum_by-cons (λ k. counted (eqb k key)) x xs,
      other x key (omega (arith, order.0)),
    )
  where
    other : (x key : ℕ) → key < x → counted (eqb x key) ≡ 0
    other x key below = grind (arith, nat_tests)

count_same : (x key : ℕ) → x ≡ key → counted (eqb x key) ≡ 1
count_same x key same = grind (arith, nat_tests)

count_other : (x key : ℕ) → x ≢ key → counted (eqb x key) ≡ 0
count_other x key differ = grind (arith, nat_tests)

times-cons_same : (key x : ℕ) (xs : List ℕ) → x ≡ key → times (x ∷ xs) key ≡ 1 + times xs key
times-cons_same key x xs same = omega (arith, sum_by-cons (λ k. counted (eqb k key)) x xs, count_same x key same)

times-cons_other : (key x : ℕ) (xs : List ℕ) → x ≢ key → times (x ∷ xs) key ≡ times xs key
times-cons_other key x xs differ = omega (arith, sum_by-cons (λ k. counted (eqb k key)) x xs, count_other x key differ)

pub times-in : (key : ℕ) (xs : List ℕ) → IsIn key xs → 0 < times xs key
times-in key [] inside = absurd inside
times-in key (x ∷ xs) (inl same) = omega (arith, times-cons_same key x xs (sym same))
times-in key (x ∷ xs) (inr later) = elim (cases_eq x key) [
  | inl same ↦ omega (arith, times-cons_same key x xs same)
  | inr differ ↦ omega (arith, times-cons_other key x xs differ, times-in key xs later)
]

pub in-times : (key : ℕ) (xs : List ℕ) → 0 < times xs key → IsIn key xs
in-times key [] some = absurd (omega arith)
in-times key (x ∷ xs) some = elim (cases_eq x key) [
  | inl same ↦ inl (sym same)
  | inr differ ↦ inr (in-times key xs (omega (arith, times-cons_other key x xs differ)))
]

-- ---- the x rise

module _ (keys : List ℕ) where
  -- the points of keys that follow one another
  abbrev points_from : ℕ → List ℕ → List ℕ
  points_from k xs = flat_map (with_closing keys) (dedup_from eqb k xs)

  points_from-same : (k x : ℕ) (xs : List ℕ) → x ≡ k → points_from k (x ∷ xs) ≡ points_from k xs
  points_from-same k x xs same = rw (same_test x k same) refl
    where
      same_test : (x k : ℕ) → x ≡ k → eqb x k ≡ true
      same_test x k same = grind (arith, nat_tests)

  points_from-other : (k x : ℕ) (xs : List ℕ) → x ≢ k → points_from k (x ∷ xs) ≡ with_closing keys k ++ points_from x xs
  points_from-other k x xs differ = rw (other_test x k differ) refl
    where
      other_test : (x k : ℕ) → x ≢ k → eqb x k ≡ false
      other_test x k differ = grind (arith, nat_tests)

  RisesFrom-closing : (low k next : ℕ) (later : List ℕ) →
      low ≤ k → k < next → 0 < times keys next → RisesFrom next later → RisesFrom low (with_closing keys k ++ later)
  RisesFrom-closing low k next later from below key rise = elim (with_closing-cases keys k) [
    | inl alone ↦ rw alone (from, RisesFrom-lower (k + 1) next later (omega arith) rise)
    | inr closed ↦ rw closed.0 (from, (omega arith, RisesFrom-lower (k + 1 + 1) next later (past closed.1) rise))
  ]
    where
      RisesFrom-lower : (low high : ℕ) (xs : List ℕ) → low ≤ high → RisesFrom high xs → RisesFrom low xs
      RisesFrom-lower low high [] below rise = tt
      RisesFrom-lower low high (x ∷ xs) below rise = (omega (arith, rise.0), rise.1)

      past : IsClosed keys k → k + 1 + 1 ≤ next
      past closed = elim (cases_eq next (k + 1)) [
        | inl same ↦ absurd (omega (arith, key, closed.apart, ap (times keys) same))
        | inr apart ↦ omega arith
      ]

  RisesFrom-points : (low k : ℕ) (xs : List ℕ) →
      low ≤ k → NeverFallsFrom k xs → ((x : ℕ) → IsIn x xs → 0 < times keys x) → RisesFrom low (points_from k xs)
  RisesFrom-points low k [] from order inside = elim (with_closing-cases keys k) [
    | inl alone ↦ rw alone (from, tt)
    | inr closed ↦ rw closed.0 (from, (omega arith, tt))
  ]
  RisesFrom-points low k (x ∷ xs) from order inside = elim (cases_eq x k) [
    | inl same ↦ rw (points_from-same k x xs same)
        (RisesFrom-points low k xs from
        (subst (λ (n : ℕ). NeverFallsFrom n xs) same order.1) (λ y later. inside y (inr later)))
    | inr differ ↦ rw (points_from-other k x xs differ)
        (RisesFrom-closing low k x (points_from x xs) from (omega (arith, order.0)) (inside x (inl refl))
        (RisesFrom-points x x xs (omega arith) order.1 (λ y later. inside y (inr later))))
  ]

  -- ---- there are no more points than keys

  length-closing : (k c : ℕ) → times keys k ≤ c → 0 < c → length (with_closing keys k) ≤ c
  length-closing k c room some = elim (with_closing-cases keys k) [
    | inl alone ↦ omega (arith, ap length alone)
    | inr closed ↦ omega (arith, ap length closed.0, closed.1.repeats)
  ]

  length-points : (k c : ℕ) (xs : List ℕ) →
      0 < c → NeverFallsFrom k xs → times keys k ≡ c + times xs k → ((x : ℕ) → k < x → times keys x ≡ times xs x) →
      length (points_from k xs) ≤ c + length xs
  length-points k c [] some order here above =
      omega (arith, length-append (with_closing keys k) [], length-closing k c (omega arith) some)
  length-points k c (x ∷ xs) some order here above = elim (cases_eq x k) [
    | inl same ↦
        omega (
          arith,
          ap length (points_from-same k x xs same),
          length-points k (c + 1) xs (omega arith)
              (subst (λ (n : ℕ). NeverFallsFrom n xs) same order.1) (omega (arith, times-cons_same k x xs same))
              (λ y high. above y high ∙ times-cons_other y x xs (omega arith)),
        )
    | inr differ ↦
        omega (
          arith,
          ap length (points_from-other k x xs differ),
          length-append (with_closing keys k) (points_from x xs),
          length-closing k c
              (omega (arith, times-none k (x ∷ xs) x (omega arith, order.1) (omega (arith, order.0)))) some,
          length-points x 1 xs (omega arith) order.1 (above x (omega (arith, order.0)) ∙ times-cons_same x x xs refl)
              (λ y high. above y (omega (arith, order.0, high)) ∙ times-cons_other y x xs (omega arith)),
        )
  ]

  -- ---- the first x is the first key

  first-closing : (k : ℕ) (later : List ℕ) →
      (0 < length (with_closing keys k ++ later)) × (slice_index (with_closing keys k ++ later) 0 ≡ k)
  first-closing k later = elim (with_closing-cases keys k) [
    | inl alone ↦ rw alone (omega arith, refl)
    | inr closed ↦ rw closed.0 (omega arith, refl)
  ]

  first-points : (k : ℕ) (xs : List ℕ) → (0 < length (points_from k xs)) × (slice_index (points_from k xs) 0 ≡ k)
  first-points k [] = first-closing k []
  first-points k (x ∷ xs) = elim (cases_eq x k) [
    | inl same ↦ rw (points_from-same k x xs same) (first-points k xs)
    | inr differ ↦ rw (points_from-other k x xs differ) (first-closing k (points_from x xs))
  ]

  -- ---- which numbers are an x

  in-closing : (k : ℕ) → IsIn k (with_closing keys k)
  in-closing k =
      elim (with_closing-cases keys k) [ inl alone ↦ rw alone (inl refl) | inr closed ↦ rw closed.0 (inl refl) ]

  in-closing_next : (k : ℕ) → IsClosed keys k → IsIn (k + 1) (with_closing keys k)
  in-closing_next k closed = rw (IsClosed-out keys k closed) (inr (inl refl))

  points_have : (k : ℕ) (xs : List ℕ) (y z : ℕ) →
      IsIn y (k ∷ xs) → IsIn z (with_closing keys y) → IsIn z (points_from k xs)
  points_have k [] y z (inl same) inside =
      IsIn-left z (with_closing keys k) [] (subst (λ (n : ℕ). IsIn z (with_closing keys n)) same inside)
  points_have k [] y z (inr none) inside = absurd none
  points_have k (x ∷ xs) y z found inside = elim (cases_eq x k) [
    | inl same ↦ rw (points_from-same k x xs same) (points_have k xs y z (without same found) inside)
    | inr differ ↦ rw (points_from-other k x xs differ) (elim found [
      | inl here ↦ IsIn-left z
          (with_closing keys k) (points_from x xs) (subst (λ (n : ℕ). IsIn z (with_closing keys n)) here inside)
      | inr later ↦ IsIn-right z (with_closing keys k) (points_from x xs) (points_have x xs y z later inside)
    ])
  ]
    where
      without : x ≡ k → IsIn y (k ∷ x ∷ xs) → IsIn y (k ∷ xs)
      without same (inl here) = inl here
      without same (inr (inl next)) = inl (next ∙ same)
      without same (inr (inr later)) = inr later

  closing_from : (k z : ℕ) → IsIn z (with_closing keys k) → (z ≡ k) ⊎ ((z ≡ k + 1) × IsClosed keys k)
  closing_from k z inside = elim (with_closing-cases keys k) [
    | inl alone ↦ elim (subst (IsIn z) alone inside) [ inl same ↦ inl same | inr none ↦ absurd none ]
    | inr closed ↦ elim (subst (IsIn z) closed.0 inside)
        [ inl same ↦ inl same | inr (inl next) ↦ inr (next, closed.1) | inr (inr none) ↦ absurd none ]
  ]

  points_are : (k : ℕ) (xs : List ℕ) (z : ℕ) →
      IsIn z (points_from k xs) → (y : ℕ) × IsIn y (k ∷ xs) × ((z ≡ y) ⊎ ((z ≡ y + 1) × IsClosed keys y))
  points_are k [] z inside = elim (IsIn-append z (with_closing keys k) [] inside) [
    | inl here ↦ (k, inl refl, closing_from k z here)
    | inr none ↦ absurd none
  ]
  points_are k (x ∷ xs) z inside = elim (cases_eq x k) [
    | inl same ↦
        let found = points_are k xs z (subst (IsIn z) (points_from-same k x xs same) inside) in
        (found.0, more found.0 found.1, found.2)
    | inr differ ↦
        elim (IsIn-append z
        (with_closing keys k) (points_from x xs) (subst (IsIn z) (points_from-other k x xs differ) inside)) [
          | inl here ↦ (k, inl refl, closing_from k z here)
          | inr later ↦ let found = points_are x xs z later in (found.0, inr found.1, found.2)
        ]
  ]
    where
      more : (y : ℕ) → IsIn y (k ∷ xs) → IsIn y (k ∷ x ∷ xs)
      more y (inl here) = inl here
      more y (inr later) = inr (inr later)

-- ---- of all keys

xs_have : (keys : List ℕ) (y z : ℕ) → IsIn y keys → IsIn z (with_closing keys y) → IsIn z (xs_of keys)
xs_have [] y z found inside = absurd found
xs_have (k ∷ xs) y z found inside = points_have (k ∷ xs) k xs y z found inside

xs_are : (keys : List ℕ) (z : ℕ) →
    IsIn z (xs_of keys) → (y : ℕ) × IsIn y keys × ((z ≡ y) ⊎ ((z ≡ y + 1) × IsClosed keys y))
xs_are [] z inside = absurd inside
xs_are (k ∷ xs) z inside = points_are (k ∷ xs) k xs z inside

pub xs-rise : (keys : List ℕ) → IsNonDecreasing keys → IsStrictlyIncreasing (xs_of keys)
xs-rise [] order = λ k inside. absurd (omega arith)
xs-rise (k ∷ xs) order =
    IsStrictlyIncreasing-from k (xs_of (k ∷ xs))
    (RisesFrom-points (k ∷ xs) k k xs (omega arith) (NeverFallsFrom-in k (k ∷ xs) order (λ some. omega arith)).1
    (λ x inside. times-in x (k ∷ xs) (inr inside)))

-- there are no more points than keys
pub xs-few : (keys : List ℕ) → IsNonDecreasing keys → length (xs_of keys) ≤ length keys
xs-few [] order = omega arith
xs-few (k ∷ xs) order =
    omega (
      arith,
      length-points (k ∷ xs) k 1 xs (omega arith) (NeverFallsFrom-in k (k ∷ xs) order (λ some. omega arith)).1
          (times-cons_same k k xs refl) (λ x above. times-cons_other x k xs (omega arith)),
    )

pub xs-first : (keys : List ℕ) →
    0 < length keys → (0 < length (xs_of keys)) × (slice_index (xs_of keys) 0 ≡ slice_index keys 0)
xs-first [] some = absurd (omega arith)
xs-first (k ∷ xs) some = first-points (k ∷ xs) k xs

-- ---- heights

lb-cons : (k : ℕ) (keys : List ℕ) (q : ℕ) → lb (k ∷ keys) q ≡ counted (ltb k q) + lb keys q
lb-cons k keys q = sum_by-cons (λ x. counted (ltb x q)) k keys

counted-more : (k a b : ℕ) → a ≤ b → counted (ltb k a) ≤ counted (ltb k b)
counted-more k a b less = grind (arith, nat_tests)

pub lb-more : (keys : List ℕ) (a b : ℕ) → a ≤ b → lb keys a ≤ lb keys b
lb-more [] a b less = omega arith
lb-more (k ∷ keys) a b less =
    omega (arith, lb-cons k keys a, lb-cons k keys b, counted-more k a b less, lb-more keys a b less)

pub ys-length : (keys : List ℕ) → length (ys_of keys) ≡ length (xs_of keys)
ys-length keys = rw length-map refl

pub ys-at : (keys : List ℕ) (j : ℕ) →
    j < length (xs_of keys) → slice_index (ys_of keys) j ≡ lb keys (slice_index (xs_of keys) j)
ys-at keys j inside = get_or-map (lb keys) (xs_of keys) j 0 0 inside

pub ys-never_fall : (keys : List ℕ) → IsNonDecreasing keys → IsNonDecreasing (ys_of keys)
ys-never_fall keys order = IsNonDecreasing-from_neighbours (ys_of keys) (λ k inside.
    omega (
      arith,
      ys-at keys k (omega (arith, ys-length keys)),
      ys-at keys (k + 1) (omega (arith, ys-length keys)),
      lb-more keys (slice_index (xs_of keys) k)
          (slice_index (xs_of keys) (k + 1)) (omega (arith, xs-rise keys order k (omega (arith, ys-length keys)))),
    ))

IsIn-at : (keys : List ℕ) (k : ℕ) → k < length keys → IsIn (slice_index keys k) keys
IsIn-at [] k inside = absurd (omega arith)
IsIn-at (key ∷ keys) zero inside = inl refl
IsIn-at (key ∷ keys) (suc k) inside = inr (IsIn-at keys k (omega arith))

-- the first point has no key below it
pub ys-first : (keys : List ℕ) → IsNonDecreasing keys → 0 < length keys → slice_index (ys_of keys) 0 ≡ 0
ys-first keys order some =
    let first = xs-first keys some in
    ys-at keys 0 first.0 ∙ ap (lb keys) first.1 ∙ lb-is keys
    (slice_index keys 0) 0 (omega arith) (λ k less. absurd (omega arith)) (λ k low inside. order 0 k 0 low inside)

-- no key stands between
lb-between : (keys : List ℕ) (a n : ℕ) → ((z : ℕ) → a ≤ z → z < a + n → times keys z ≡ 0) → lb keys (a + n) ≡ lb keys a
lb-between keys a zero none = ap (lb keys) (omega arith)
lb-between keys a (suc n) none =
    ap (lb keys) (omega arith) ∙ sym (times-lb keys (a + n)) ∙ omega
    (arith, none (a + n) (omega arith) (omega arith), lb-between keys a n (λ z low high. none z low (omega arith)))

-- ---- what follows a point

module _ (keys : List ℕ) (order : IsNonDecreasing keys) (i : ℕ) (inside : i < length (xs_of keys)) where
  -- no x stands between the point and the next one
  no_x : (z : ℕ) → slice_index (xs_of keys) i < z →
      (i + 1 < length (xs_of keys) → z < slice_index (xs_of keys) (i + 1)) → IsIn z (xs_of keys) → ⊥
  no_x z above below found =
      let at = IsIn-place z (xs_of keys) found in
      let j : ℕ = at.0 in
      let j_inside : j < length (xs_of keys) = at.1 in
      let j_is : slice_index (xs_of keys) j ≡ z = at.2 in
      elim (cases_lt j i) [
        | inl before ↦ omega (arith, slice_index-rises (xs_of keys) j i (xs-rise keys order) before inside)
        | inr from ↦ elim (cases_eq i j) [
          | inl same ↦ omega (arith, ap (slice_index (xs_of keys)) same)
          | inr apart ↦ elim (cases_eq (i + 1) j) [
            | inl next ↦ omega (arith, ap (slice_index (xs_of keys)) next, below (omega arith))
            | inr later ↦
                omega (
                  arith,
                  slice_index-rises (xs_of keys) (i + 1) j (xs-rise keys order) (omega arith) j_inside,
                  below (omega arith),
                )
          ]
        ]
      ]

  no_key : (z : ℕ) → slice_index (xs_of keys) i < z →
      (i + 1 < length (xs_of keys) → z < slice_index (xs_of keys) (i + 1)) → times keys z ≡ 0
  no_key z above below = elim (cases_lt 0 (times keys z)) [
    | inl some ↦ absurd (no_x z above below (xs_have keys z z (in-times z keys some) (in-closing keys z)))
    | inr none ↦ omega arith
  ]

  -- up to the next point the lower bound is that of the number after this one
  lb-after : (q : ℕ) →
      slice_index (xs_of keys) i < q → (i + 1 < length (xs_of keys) → q ≤ slice_index (xs_of keys) (i + 1)) →
      lb keys q ≡ slice_index (ys_of keys) i + times keys (slice_index (xs_of keys) i)
  lb-after q above below =
      let x = slice_index (xs_of keys) i in
      ap (lb keys) (omega arith) ∙ lb-between keys
      (x + 1) (q - (x + 1)) (λ z low high. no_key z (omega arith) (λ more. omega (arith, below more)))
      ∙ sym (times-lb keys x) ∙ omega (arith, ys-at keys i inside)

  -- where the point's key repeats, the next number is an x
  next_x : slice_index (xs_of keys) i < 18446744073709551615 →
      1 < times keys (slice_index (xs_of keys) i) → IsIn (slice_index (xs_of keys) i + 1) (xs_of keys)
  next_x low repeats =
      let x = slice_index (xs_of keys) i in
      elim (cases_lt 0 (times keys (x + 1))) [
        | inl some ↦ xs_have keys (x + 1) (x + 1) (in-times (x + 1) keys some) (in-closing keys (x + 1))
        | inr none ↦ xs_have keys x (x + 1) (in-times x keys (omega arith))
            (in-closing_next keys x (record { repeats = repeats; low = low; apart = omega arith }))
      ]

  -- the lower bound of a question is the y of the last point at or before it, or the next number
  pub next_of_point : (q : ℕ) → slice_index (xs_of keys) i ≤ q →
      (i + 1 < length (xs_of keys) → q < slice_index (xs_of keys) (i + 1)) → q ≤ 18446744073709551615 →
      (slice_index (ys_of keys) i ≤ lb keys q) × (lb keys q ≤ slice_index (ys_of keys) i + 1)
  next_of_point q at_most below fits =
      let x = slice_index (xs_of keys) i in
      elim (cases_eq x q) [
        | inl same ↦ let is = ap (lb keys) same in
            (omega (arith, ys-at keys i inside), omega (arith, ys-at keys i inside))
        | inr apart ↦
            let is = lb-after q (omega arith) (λ more. omega (arith, below more)) in
            elim (cases_lt 1 (times keys x)) [
              | inl repeats ↦
                  absurd (no_x (x + 1) (omega arith) (λ more. omega (arith, below more)) (next_x (omega arith) repeats))
              | inr few ↦ (omega arith, omega arith)
            ]
      ]

  -- between the point and a question past it the next point is at most one higher
  pub close_of_point : (q : ℕ) → slice_index (xs_of keys) i ≤ q →
      (i + 1 < length (xs_of keys) → q < slice_index (xs_of keys) (i + 1)) → q ≤ 18446744073709551615 →
      (q ≡ slice_index (xs_of keys) i)
      ⊎ (i + 1 < length (xs_of keys) → slice_index (ys_of keys) (i + 1) ≤ slice_index (ys_of keys) i + 1)
  close_of_point q at_most below fits =
      let x = slice_index (xs_of keys) i in
      elim (cases_eq q x) [
        | inl same ↦ inl same
        | inr apart ↦ inr (λ more.
            let is = lb-after (slice_index (xs_of keys) (i + 1)) (omega (arith, below more)) (λ more. omega arith) in
            elim (cases_lt 1 (times keys x)) [
              | inl repeats ↦
                  absurd (no_x (x + 1) (omega arith) (λ more. omega (arith, below more)) (next_x (omega arith) repeats))
              | inr few ↦ omega (arith, ys-at keys (i + 1) more)
            ])
      ]

  -- past the last point the lower bound is how many keys there are
  pub lb-past_points : (q : ℕ) → slice_index (xs_of keys) i < q → i + 1 ≡ length (xs_of keys) → lb keys q ≡ length keys
  lb-past_points q past last = lb-is keys q (length keys) (omega arith) below (λ k high within. absurd (omega arith))
    where
      below : (k : ℕ) → k < length keys → slice_index keys k < q
      below k less = elim (cases_lt (slice_index keys k) q) [
        | inl before ↦ before
        | inr from ↦ absurd (omega (
          arith,
          no_key (slice_index keys k) (omega (arith, past, from)) (λ more. absurd (omega (arith, last))),
          times-in (slice_index keys k) keys (IsIn-at keys k less),
        ))
      ]
