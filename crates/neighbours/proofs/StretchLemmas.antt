-- What is kept of the places of codes, stretch by stretch.
use Rattle.std.proofs.Common.{◌≡◌, ℕ, suc, ◌+◌, ◌*◌, ◌^◌, ◌<◌, ◌≤◌, List, [], ◌∷◌, ◌++◌, length, get_or}
use Rattle.std.proofs.Common.{take, drop, All, refl, sym, ap, ◌∙◌, subst, arith}
use Rattle.std.proofs.lemmas.List.{get_or-drop, get_or-take, length-drop, length-take, take-append-drop, take_more}
use Rattle.std.proofs.lemmas.List.Elements.{All-cons, All-drop, All-nil, All-take}
use Rattle.std.proofs.lemmas.List.Sorted.{IsPermutation-append_comm}
use Rattle.zorder.specs.Codes.{IsCode}
use Rattle.neighbours.specs.declared.neighbour.Neighbour.{Neighbour}
use Rattle.neighbours.specs.Chosen.{AreStillKept, IsHeap}
use Rattle.neighbours.specs.Metrics.{AreInOrder}
use Rattle.neighbours.specs.Neighbours.{neighbour_at, neighbours_from, rank_of}
use Rattle.neighbours.proofs.HeapLemmas.{rank_at}
use Rattle.neighbours.proofs.KeptLemmas.{From, Places, kept_if, kept_no_more, kept_none, kept_permuted, kept_then}

-- ---- ranks

pub rank_is : (far place : ℕ) → rank_of (neighbour_at far place) ≡ far * 2 ^ 64 + place
rank_is far place = omega arith

pub rank_rises : (near far place later : ℕ) →
    near ≤ far → place ≤ later → rank_of (neighbour_at near place) ≤ rank_of (neighbour_at far later)
rank_rises near far place later nearer before = omega (arith, rank_is near place, rank_is far later)

module _ (far : ℕ → ℕ) where
  abbrev all_from : ℕ → List ℕ → Places
  all_from = neighbours_from far

  from_nil : (place : ℕ) → all_from place [] ≡ []
  unfolding neighbours_from
  from_nil place = refl

  from_cons : (place z : ℕ) (codes : List ℕ) →
      all_from place (z ∷ codes) ≡ neighbour_at (far z) place ∷ all_from (suc place) codes
  unfolding neighbours_from
  from_cons place z codes = refl

  -- the places of two lists, one behind the other
  pub from_append : (place : ℕ) (xs ys : List ℕ) →
      all_from place (xs ++ ys) ≡ all_from place xs ++ all_from (place + length xs) ys
  unfolding neighbours_from
  from_append place [] ys =
      let same : place ≡ place + 0 = omega arith in ap (λ (p : ℕ). all_from p ys) same
  from_append place (x ∷ xs) ys =
      let same : suc place + length xs ≡ place + length (x ∷ xs) = omega arith in
      ap (λ (rest : Places). neighbour_at (far x) place ∷ rest)
      (from_append (suc place) xs ys
      ∙ ap (λ (p : ℕ). all_from (suc place) xs ++ all_from p ys) same)

  pub from_parts : (place n : ℕ) (codes : List ℕ) → n ≤ length codes →
      all_from place (take n codes) ++ all_from (place + n) (drop n codes) ≡ all_from place codes
  from_parts place n codes within =
      let long : place + n ≡ place + length (take n codes) = omega (arith, length-take n codes) in
      ap (λ (p : ℕ). all_from place (take n codes) ++ all_from p (drop n codes)) long
      ∙ sym (from_append place (take n codes) (drop n codes)) ∙ ap (all_from place) (take-append-drop n codes)

  -- none is before a bound where none of the codes' places is
  pub from_bound : (bound place : ℕ) (codes : List ℕ) →
      ((k : ℕ) → k < length codes → bound ≤ rank_of (neighbour_at (far (get_or codes k 0)) (place + k)))
      → From bound (all_from place codes)
  unfolding neighbours_from
  from_bound bound place [] each = All-nil (λ (one : Neighbour). bound ≤ rank_of one)
  from_bound bound place (z ∷ codes) each =
      All-cons (λ (one : Neighbour). bound ≤ rank_of one) (neighbour_at (far z) place) (all_from (suc place) codes)
      (omega (arith, each 0 (omega arith)))
      (from_bound bound (suc place) codes (λ k within.
      omega (arith, each (suc k) (omega arith))))

  module _ (P : Type 0) where
    -- one more code
    pub kept_one_more : (codes : List ℕ) (place i z : ℕ) (old mid new : Places) →
        i < length codes → z ≡ get_or codes i 0 → AreStillKept P old (all_from place (take i codes)) mid
        → AreStillKept P mid (neighbour_at (far z) (place + i) ∷ []) new
        → AreStillKept P old (all_from place (take (i + 1) codes)) new
    unfolding neighbours_from
    kept_one_more codes place i z old mid new within is one two =
        let long : place + length (take i codes) ≡ place + i = omega (arith, length-take i codes) in
        let whole : all_from place (take i codes) ++ neighbour_at (far z) (place + i) ∷ []
        ≡ all_from place (take (i + 1) codes) =
        ap (λ (w : ℕ). all_from place (take i codes) ++ neighbour_at (far w) (place + i) ∷ []) is
        ∙ ap (λ (p : ℕ). all_from place (take i codes) ++ neighbour_at (far (get_or codes i 0)) p ∷ []) (sym long)
        ∙ sym (from_append place (take i codes) (get_or codes i 0 ∷ []))
        ∙ sym (ap (all_from place) (take_more codes i 0 within)) in
        subst (λ (more : Places). AreStillKept P old more new) whole
        (kept_then P old (all_from place (take i codes)) mid (neighbour_at (far z) (place + i) ∷ []) new one two)

    pub kept_left_first : (codes : List ℕ) (place n : ℕ) (old mid new : Places) → n ≤ length codes
        → AreStillKept P old (all_from place (take n codes)) mid
        → AreStillKept P mid (all_from (place + n) (drop n codes)) new → AreStillKept P old (all_from place codes) new
    kept_left_first codes place n old mid new within one two =
        subst (λ (more : Places). AreStillKept P old more new) (from_parts place n codes within)
        (kept_then P old (all_from place (take n codes)) mid (all_from (place + n) (drop n codes)) new one two)

    pub kept_right_first : (codes : List ℕ) (place n : ℕ) (old mid new : Places) → n ≤ length codes
        → AreStillKept P old (all_from (place + n) (drop n codes)) mid
        → AreStillKept P mid (all_from place (take n codes)) new → AreStillKept P old (all_from place codes) new
    kept_right_first codes place n old mid new within one two =
        let left = all_from place (take n codes) in
        let right = all_from (place + n) (drop n codes) in
        subst (λ (more : Places). AreStillKept P old more new) (from_parts place n codes within)
        (kept_permuted P old (right ++ left) (left ++ right) new (IsPermutation-append_comm right left)
        (kept_then P old right mid left new one two))

    -- codes none of which is nearer than such that the one in front stands before the first of their places
    pub kept_no_further : (codes : List ℕ) (place away : ℕ) (old : Places) → 0 < length old → IsHeap 0 old
        → (P → All (λ z. away ≤ far z) codes) → rank_at old 0 ≤ rank_of (neighbour_at away place)
        → AreStillKept P old (all_from place codes) old
    kept_no_further codes place away old some heap further behind =
        kept_no_more P old (all_from place codes) some heap (λ p.
        from_bound (rank_at old 0) place codes (λ k within.
        omega (
          arith,
          behind,
          rank_rises away (far (get_or codes k 0)) place (place + k) (further p k 0 within) (omega arith),
        )))

    -- equal codes, from one on that isn't kept
    pub kept_no_equal : (codes : List ℕ) (place i z : ℕ) (old mid : Places) → i ≤ length codes
        → (P → All (λ w. w ≡ z) codes) → 0 < length mid → IsHeap 0 mid
        → rank_at mid 0 ≤ rank_of (neighbour_at (far z) (place + i))
        → AreStillKept P old (all_from place (take i codes)) mid → AreStillKept P old (all_from place codes) mid
    kept_no_equal codes place i z old mid inside equal some heap behind so_far =
        kept_left_first codes place i old mid mid inside so_far
        (kept_no_further (drop i codes) (place + i) (far z) mid some heap (λ p k e within.
        let there : i + k < length codes = omega (arith, length-drop i codes) in
        let same = get_or-drop i codes k e ∙ equal p (i + k) e there in
        let as_far = ap far same in
        omega (arith, as_far)) behind)

-- of no code there is nothing more
pub none_of : (P : Type 0) (far : ℕ → ℕ) (place : ℕ) (codes : List ℕ) (old : Places) →
    0 < length old → IsHeap 0 old → AreStillKept P old (neighbours_from far place (take 0 codes)) old
unfolding neighbours_from
none_of P far place codes old some heap = kept_none P old some heap

pub kept_no_codes : (P : Type 0) (far : ℕ → ℕ) (place : ℕ) (codes : List ℕ) (old : Places) →
    0 < length old → IsHeap 0 old → length codes ≡ 0 → AreStillKept P old (neighbours_from far place codes) old
unfolding neighbours_from
kept_no_codes P far place [] old some heap none = kept_none P old some heap
kept_no_codes P far place (z ∷ codes) old some heap none = absurd (omega arith)

-- ---- codes in order

pub in_order_take : (d n : ℕ) (codes : List ℕ) → AreInOrder d codes → AreInOrder d (take n codes)
in_order_take d n codes are = record {
  never_falls = λ i j e before within.
      let below : j < n = omega (arith, length-take n codes) in
      omega (
        arith,
        get_or-take n codes i e (omega arith),
        get_or-take n codes j e below,
        are.never_falls i j e before (omega (arith, length-take n codes)),
      );
  each = All-take (IsCode d) n codes are.each;
}

pub in_order_drop : (d n : ℕ) (codes : List ℕ) → AreInOrder d codes → AreInOrder d (drop n codes)
in_order_drop d n codes are = record {
  never_falls = λ i j e before within. omega (
    arith,
    get_or-drop n codes i e,
    get_or-drop n codes j e,
    are.never_falls (n + i) (n + j) e (omega arith) (omega (arith, length-drop n codes)),
  );
  each = All-drop (IsCode d) n codes are.each;
}

-- the two halves of a stretch, in either order
module _ (far : ℕ → ℕ) (d : ℕ) (codes left right : List ℕ) (place n : ℕ)
    (within : n ≤ length codes) (is_left : left ≡ take n codes) (is_right : right ≡ drop n codes) where
  of_left : (old new : Places) → AreStillKept (AreInOrder d left) old (neighbours_from far place left) new
      → AreStillKept (AreInOrder d codes) old (neighbours_from far place (take n codes)) new
  of_left old new kept = kept_if (AreInOrder d (take n codes)) (AreInOrder d codes) old
      (neighbours_from far place (take n codes)) new (in_order_take d n codes)
      (subst
      (λ (part : List ℕ). AreStillKept (AreInOrder d part) old (neighbours_from far place part) new) is_left kept)

  of_right : (old new : Places) → AreStillKept (AreInOrder d right) old (neighbours_from far (place + n) right) new
      → AreStillKept (AreInOrder d codes) old (neighbours_from far (place + n) (drop n codes)) new
  of_right old new kept = kept_if (AreInOrder d (drop n codes)) (AreInOrder d codes) old
      (neighbours_from far (place + n) (drop n codes)) new (in_order_drop d n codes)
      (subst (λ (part : List ℕ). AreStillKept (AreInOrder d part) old (neighbours_from far (place + n) part) new)
      is_right kept)

  pub halves_left_first : (old mid new : Places) →
      AreStillKept (AreInOrder d left) old (neighbours_from far place left) mid
      → AreStillKept (AreInOrder d right) mid (neighbours_from far (place + n) right) new
      → AreStillKept (AreInOrder d codes) old (neighbours_from far place codes) new
  halves_left_first old mid new one two = kept_left_first far (AreInOrder d codes) codes place n old mid new within
      (of_left old mid one) (of_right mid new two)

  pub halves_right_first : (old mid new : Places) →
      AreStillKept (AreInOrder d right) old (neighbours_from far (place + n) right) mid
      → AreStillKept (AreInOrder d left) mid (neighbours_from far place left) new
      → AreStillKept (AreInOrder d codes) old (neighbours_from far place codes) new
  halves_right_first old mid new one two = kept_right_first far (AreInOrder d codes) codes place n old mid new within
      (of_right old mid one) (of_left mid new two)
