-- Cuts, one value after another, and the edges of the pieces between them.
use Rattle.std.proofs.Common.{◌≡◌, ◌⊎◌, ℕ, zero, suc, ◌+◌, ◌-◌, ◌*◌, ◌/◌, ◌<◌, ◌≤◌, List, [], ◌∷◌, ◌++◌, length}
use Rattle.std.proofs.Common.{slice_index, Contains, refl, sym, ap, subst, inl, inr, arith, ◌∙◌, add-one}
use Rattle.std.specs.List.Sorted.{IsStrictlyIncreasing}
use Rattle.std.proofs.Math.Nat.{div-mul-le_self, div-le_self, mul-le-mul_left, mul-le-mul_right}
use Rattle.std.proofs.lemmas.Nat.{le-div, div_below}
use Rattle.std.proofs.lemmas.Bool.{cases_lt, lt-ltb, le-ltb}
use Rattle.std.proofs.lemmas.List.{get_or_append_left, get_or_push, get_or_default, length_push}
use Rattle.std.proofs.lemmas.List.Elements.{All-push}
use Rattle.piece_join.specs.Cuttings.{AreCuts, AreCutsAt, with_cut, even_place, uneven_place}
use Rattle.piece_join.specs.Pieces.{edge_of}

-- the last cut, or 0
abbrev last_of : List ℕ → ℕ
last_of cuts = slice_index cuts (length cuts - 1)

rise-push : (cuts : List ℕ) (cut : ℕ) →
    IsStrictlyIncreasing cuts → last_of cuts < cut → IsStrictlyIncreasing (cuts ++ cut ∷ [])
rise-push cuts cut rise above = λ k inside. elim (cases_lt (k + 1) (length cuts)) [
  | inl before ↦
      let here = get_or_append_left cuts (cut ∷ []) 0 k (omega arith) in
      let next = get_or_append_left cuts (cut ∷ []) 0 (k + 1) before in
      omega (arith, here, next, rise k before)
  | inr at_end ↦
      let count = length_push cuts cut in
      let last : k ≡ length cuts - 1 = omega (arith, count) in
      let here = get_or_append_left cuts (cut ∷ []) 0 k (omega (arith, count)) in
      let next = get_or_push cuts cut 0 (k + 1) (omega (arith, count)) in
      omega (arith, here, next, ap (slice_index cuts) last)
]

-- an old cut stays one, and the new one is one
Contains-more : (cuts : List ℕ) (cut x : ℕ) → Contains cuts x → Contains (cuts ++ cut ∷ []) x
Contains-more cuts cut x there = (
  there.0,
  omega (arith, length_push cuts cut, there.1),
  get_or_append_left cuts (cut ∷ []) x there.0 there.1 ∙ there.2,
)

Contains-new : (cuts : List ℕ) (cut : ℕ) → Contains (cuts ++ cut ∷ []) cut
Contains-new cuts cut = (length cuts, omega (arith, length_push cuts cut), get_or_push cuts cut cut (length cuts) refl)

Contains-cases : (cuts : List ℕ) (cut x : ℕ) → Contains (cuts ++ cut ∷ []) x → Contains cuts x ⊎ (x ≡ cut)
Contains-cases cuts cut x there = elim (cases_lt there.0 (length cuts)) [
  | inl before ↦ inl (there.0, before, sym (get_or_append_left cuts (cut ∷ []) x there.0 before) ∙ there.2)
  | inr at_end ↦ inr (sym there.2 ∙ get_or_push cuts cut x there.0 (omega (arith, length_push cuts cut)))
]

-- the last of some cuts is one of them
Contains-last : (cuts : List ℕ) → 0 < length cuts → Contains cuts (last_of cuts)
Contains-last cuts some =
    (length cuts - 1, omega arith, get_or_default cuts (length cuts - 1) (last_of cuts) 0 (omega arith))

no_last : (cuts : List ℕ) → length cuts ≡ 0 → last_of cuts ≡ 0
no_last [] none = refl
no_last (cut ∷ cuts) none = absurd (omega arith)

-- a value that rises is one cut more
AreCutsAt-more : (m n : ℕ) (place : ℕ → ℕ) (cuts : List ℕ) →
    0 < n → (0 < place n → place n < m) → last_of cuts < place n → AreCutsAt m n place cuts →
    AreCutsAt m (n + 1) place (cuts ++ place n ∷ [])
AreCutsAt-more m n place cuts some within above so_far = record {
  are = record {
    rise = rise-push cuts (place n) so_far.are.rise above;
    inside =
        All-push (λ cut. (0 < cut) × (cut < m)) cuts (place n) so_far.are.inside (omega arith, within (omega arith));
  };
  each = λ x. (there x, back x);
}
  where
    there : (x : ℕ) →
        Contains (cuts ++ place n ∷ []) x → (0 < x) × (x < m) × ((k : ℕ) × (0 < k) × (k < n + 1) × (place k ≡ x))
    there x found = elim (Contains-cases cuts (place n) x found) [
      | inl before ↦ let is = (so_far.each x).0 before in (is.0, is.1, (is.2.0, is.2.1, omega (arith, is.2.2), is.2.3))
      | inr here ↦ (omega (arith, here), omega (arith, here, within (omega arith)), (n, some, omega arith, sym here))
    ]

    back : (x : ℕ) →
        (0 < x) × (x < m) × ((k : ℕ) × (0 < k) × (k < n + 1) × (place k ≡ x)) → Contains (cuts ++ place n ∷ []) x
    back x value = let k : ℕ = value.2.0 in let is : place k ≡ x = value.2.3 in elim (cases_lt k n) [
      | inl before ↦ Contains-more cuts (place n) x ((so_far.each x).1 (value.0, value.1, (k, value.2.1, before, is)))
      | inr at_end ↦ let last : n ≡ k = omega (arith, value.2.2) in
          subst (Contains (cuts ++ place n ∷ [])) (ap place last ∙ is) (Contains-new cuts (place n))
    ]

-- one that doesn't is the last cut again, or 0
AreCutsAt-same : (m n : ℕ) (place : ℕ → ℕ) (cuts : List ℕ) →
    ((k : ℕ) → k < n → place k ≤ place n) → place n ≤ last_of cuts → AreCutsAt m n place cuts →
    AreCutsAt m (n + 1) place cuts
AreCutsAt-same m n place cuts rises below so_far = record { are = so_far.are; each = λ x. (there x, back x) }
  where
    there : (x : ℕ) → Contains cuts x → (0 < x) × (x < m) × ((k : ℕ) × (0 < k) × (k < n + 1) × (place k ≡ x))
    there x found = let is = (so_far.each x).0 found in (is.0, is.1, (is.2.0, is.2.1, omega (arith, is.2.2), is.2.3))

    again : (x : ℕ) → 0 < x → place n ≡ x → 0 < length cuts → Contains cuts x
    again x some is nonempty =
        let last = Contains-last cuts nonempty in
        let value = (so_far.each (last_of cuts)).0 last in
        let same : last_of cuts ≡ x = omega (arith, value.2.3, rises value.2.0 value.2.2, is, below) in
        subst (Contains cuts) same last

    back : (x : ℕ) → (0 < x) × (x < m) × ((k : ℕ) × (0 < k) × (k < n + 1) × (place k ≡ x)) → Contains cuts x
    back x value = let k : ℕ = value.2.0 in let is : place k ≡ x = value.2.3 in elim (cases_lt k n) [
      | inl before ↦ (so_far.each x).1 (value.0, value.1, (k, value.2.1, before, is))
      | inr at_end ↦
          let last : n ≡ k = omega (arith, value.2.2) in
          elim (cases_lt 0 (length cuts)) [
            | inl nonempty ↦ again x value.0 (ap place last ∙ is) nonempty
            | inr empty ↦ absurd (omega (arith, value.0, ap place last, is, below, no_last cuts (omega arith)))
          ]
    ]

-- one value more
pub AreCutsAt-with_cut : (m n : ℕ) (place : ℕ → ℕ) (cuts : List ℕ) →
    0 < n → ((k : ℕ) → k < n → place k ≤ place n) → (0 < place n → place n < m) →
    AreCutsAt m n place cuts → AreCutsAt m (n + 1) place (with_cut cuts (place n))
AreCutsAt-with_cut m n place cuts some rises within so_far = elim (cases_lt (last_of cuts) (place n)) [
  | inl above ↦ rw (lt-ltb (last_of cuts) (place n) above) (AreCutsAt-more m n place cuts some within above so_far)
  | inr below ↦ rw (le-ltb (last_of cuts) (place n) below) (AreCutsAt-same m n place cuts rises below so_far)
]

-- at most one cut more
pub length-with_cut : (cuts : List ℕ) (cut : ℕ) → length (with_cut cuts cut) ≤ length cuts + 1
length-with_cut cuts cut = elim (cases_lt (last_of cuts) cut) [
  | inl above ↦ rw (lt-ltb (last_of cuts) cut above) (omega (arith, length_push cuts cut))
  | inr below ↦ rw (le-ltb (last_of cuts) cut below) (omega arith)
]

-- a quotient doesn't fall
div-rises : (a b c : ℕ) → 0 < c → a ≤ b → a / c ≤ b / c
div-rises a b c some below = le-div (a / c) b c some (omega (arith, div-mul-le_self a c, below))

pos_of : (pieces : ℕ) → 0 < pieces → 0 < pieces * (pieces + 1)
pos_of pieces some = let one : 1 ≤ pieces = omega arith in omega (arith, mul-le-mul_left pieces one)

-- products of numbers that don't fall
mul-rises : (a b c d : ℕ) → a ≤ b → c ≤ d → a * c ≤ b * d
mul-rises a b c d first second = omega (arith, mul-le-mul_left a second, mul-le-mul_right d first)

pub even-rises : (m pieces k n : ℕ) → 0 < pieces → k ≤ n → even_place m pieces k ≤ even_place m pieces n
even-rises m pieces k n some below = div-rises (k * m) (n * m) pieces some (mul-rises k n m m below (omega arith))

pub uneven-rises : (m pieces k n : ℕ) → 0 < pieces → k ≤ n → uneven_place m pieces k ≤ uneven_place m pieces n
uneven-rises m pieces k n some below =
    div-rises (m * k * (k + 1)) (m * n * (n + 1)) (pieces * (pieces + 1)) (pos_of pieces some)
    (mul-rises (m * k) (m * n) (k + 1) (n + 1) (mul-rises m m k n (omega arith) below) (omega arith))

-- a value that isn't 0 is below m
pub even-below : (m pieces k : ℕ) → k < pieces → 0 < even_place m pieces k → even_place m pieces k < m
even-below m pieces k below some =
    let positive : 0 < m = elim (cases_lt 0 m) [
      | inl more ↦ more
      | inr none ↦ let zero_m : m ≡ 0 = omega arith in
          absurd (omega (arith, some, div-le_self (k * m) pieces, ap (λ n. k * n) zero_m))
    ] in
    div_below (k * m) pieces m (omega arith) (omega (arith, mul-le-mul_right m (suc_below k pieces below)))
  where
    suc_below : (k pieces : ℕ) → k < pieces → k + 1 ≤ pieces
    suc_below k pieces below = omega arith

pub uneven-below : (m pieces k : ℕ) → k < pieces → 0 < uneven_place m pieces k → uneven_place m pieces k < m
uneven-below m pieces k below some =
    let positive : 0 < m = elim (cases_lt 0 m) [
      | inl more ↦ more
      | inr none ↦ let zero_m : m ≡ 0 = omega arith in
          absurd (omega
          (arith, some, div-le_self (m * k * (k + 1)) (pieces * (pieces + 1)), ap (λ n. n * k * (k + 1)) zero_m))
    ] in
    let squares : (k + 1) * (k + 1) ≤ pieces * (pieces + 1) =
    mul-rises (k + 1) pieces (k + 1) (pieces + 1) (omega arith) (omega arith) in
    div_below (m * k * (k + 1))
    (pieces * (pieces + 1)) m (pos_of pieces (omega arith)) (omega (arith, mul-le-mul_left m squares))

pub uneven-within : (m pieces k : ℕ) → k < pieces → uneven_place m pieces k ≤ m
uneven-within m pieces k below = elim (cases_lt 0 (uneven_place m pieces k)) [
  | inl some ↦ let inside = uneven-below m pieces k below some in omega arith
  | inr none ↦ omega arith
]

-- an edge past the first piece is a cut, or the end of all
edge_at_cut : (m j : ℕ) (cuts : List ℕ) → j < length cuts → edge_of m cuts (suc j) ≡ slice_index cuts j
edge_at_cut m j cuts inside = get_or_append_left cuts (m ∷ []) 0 j inside

edge_at_end : (m j : ℕ) (cuts : List ℕ) → j ≡ length cuts → edge_of m cuts (suc j) ≡ m
edge_at_end m j cuts last = get_or_push cuts m 0 j (sym last)

-- none is past the end
edge_within : (m j : ℕ) (cuts : List ℕ) → AreCuts m cuts → j ≤ length cuts → edge_of m cuts (suc j) ≤ m
edge_within m j cuts are inside = elim (cases_lt j (length cuts)) [
  | inl before ↦ omega (arith, edge_at_cut m j cuts before, (are.inside j 0 before).1)
  | inr at_end ↦ omega (arith, edge_at_end m j cuts (omega arith))
]

-- and each is at or after the one before it
pub edges_rise : (m i : ℕ) (cuts : List ℕ) →
    AreCuts m cuts → i ≤ length cuts → edge_of m cuts i ≤ edge_of m cuts (suc i)
edges_rise m zero cuts are inside = omega arith
edges_rise m (suc j) cuts are inside = elim (cases_lt (suc j) (length cuts)) [
  | inl before ↦
      omega (
        arith,
        edge_at_cut m j cuts (omega arith),
        edge_at_cut m (suc j) cuts before,
        rw add-one at (are.rise j (omega arith)),
      )
  | inr at_end ↦
      omega (
        arith,
        edge_at_cut m j cuts (omega arith),
        edge_at_end m (suc j) cuts (omega arith),
        (are.inside j 0 (omega arith)).1,
      )
]

-- past the last piece it is the end of all
pub edge_last : (m i : ℕ) (cuts : List ℕ) → i ≡ length cuts + 1 → edge_of m cuts i ≡ m
edge_last m i cuts last = ap (edge_of m cuts) (last ∙ add-one (length cuts)) ∙ edge_at_end m (length cuts) cuts refl

pub edge_next_within : (m i : ℕ) (cuts : List ℕ) → AreCuts m cuts → i ≤ length cuts → edge_of m cuts (i + 1) ≤ m
edge_next_within m i cuts are inside = rw (add-one i) (edge_within m i cuts are inside)
