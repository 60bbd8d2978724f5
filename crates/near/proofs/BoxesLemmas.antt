-- The number of boxes is told by the greatest distance in the answer.
use Rattle.std.proofs.Common.{◌≡◌, ⊎_elim, ℕ, zero, suc, ◌+◌, ◌-◌, ◌*◌, ◌^◌, ◌<◌, ◌≤◌, Bool, true, false, cond, leb}
use Rattle.std.proofs.Common.{List, [], ◌∷◌, length, get_or, take, drop, All, min, refl, sym, ap, ◌∙◌, subst, arith}
use Rattle.std.specs.List.{count_by}
use Rattle.std.specs.List.Sorted.{IsNonDecreasingBy}
use Rattle.std.proofs.lemmas.Bool.{cases_lt, le-leb, lt-leb}
use Rattle.std.proofs.lemmas.List.{get_or_default, get_or-drop, get_or-take, length-drop, length-take}
use Rattle.std.proofs.lemmas.List.Elements.{All-head, All-tail}
use Rattle.std.proofs.lemmas.List.Sorted.{sum_by-IsPermutation}
use Rattle.std.proofs.lemmas.List.Sums.{count_by-le-length, length-filter, sum_by-append, sum_by-take-drop}
use Rattle.std.proofs.lemmas.Nat.{leading_length, pow_pos}
use Rattle.std.proofs.Math.Nat.{two-pow-succ}
use Rattle.std.proofs.Math.Pow.{pow_mono}
use Rattle.zorder.specs.Codes.{IsCode, IsDimension}
use Rattle.boxes.specs.BoxAnswers.{is_inside}
use Rattle.boxes.proofs.CallerLemmas.{inside_passes, outside_fails}
use Rattle.near.specs.Around.{box_around, distance, points_within}
use Rattle.near.specs.Kept.{HasBits}
use Rattle.near.specs.Nearest.{AreBoxes, AreNearest, AreSortedPairs, IsLeastBox, IsNear, NearAnswer, pairs_of}
use Rattle.near.proofs.Distances.{distance_from_inside, inside_from_distance}
use Rattle.near.proofs.NearestLemmas.{codes_small, some_nearest}

-- ---- counts

abbrev one_if : Bool → ℕ
one_if b = cond b 1 0

count_more : {X : Type 0} (test : X → Bool) (x : X) (xs : List X) →
    count_by test (x ∷ xs) ≡ one_if (test x) + count_by test xs
count_more test x xs = omega (arith, sum_by-append (λ y. cond (test y) 1 0) (x ∷ []) xs)

count_all : {X : Type 0} (test : X → Bool) (xs : List X) → All (λ x. test x ≡ true) xs → count_by test xs ≡ length xs
count_all test [] all = refl
count_all test (x ∷ xs) all =
    let here : test x ≡ true = All-head (λ y. test y ≡ true) x xs all in
    let rest = count_all test xs (All-tail (λ y. test y ≡ true) x xs all) in
    let one = ap one_if here in
    omega (arith, count_more test x xs, rest, one)

count_none : {X : Type 0} (test : X → Bool) (xs : List X) → All (λ x. test x ≡ false) xs → count_by test xs ≡ 0
count_none test [] all = refl
count_none test (x ∷ xs) all =
    let here : test x ≡ false = All-head (λ y. test y ≡ false) x xs all in
    let rest = count_none test xs (All-tail (λ y. test y ≡ false) x xs all) in
    let none = ap one_if here in
    omega (arith, count_more test x xs, rest, none)

abbrev is_near : ℕ → ℕ × ℕ → Bool
is_near reach pair = leb pair.0 reach

-- ---- bits

pub bits_from_length : (n i : ℕ) → n < 2 ^ i → 2 ^ i ≤ 2 * n + 1 → HasBits n i
bits_from_length n i below above = (
  below,
  λ j less.
      let i_is : suc (i - 1) ≡ i = omega arith in
      let rises : 2 ^ j ≤ 2 ^ (i - 1) = pow_mono (omega arith) in
      omega (arith, rises, two-pow-succ (i - 1), ap (λ (m : ℕ). 2 ^ m) i_is),
)

below_power : (n : ℕ) → n < 2 ^ n
below_power zero = omega arith
below_power (suc n) = omega (arith, below_power n, two-pow-succ n)

some_bits : (n : ℕ) → (i : ℕ) × HasBits n i
some_bits n =
    let found = leading_length n n (below_power n) in (found.0, bits_from_length n found.0 found.2 found.3)

-- of pairs in order by distance, the number of those that are near
module _ (reach n : ℕ) (pairs : List (ℕ × ℕ)) (order : IsNonDecreasingBy (λ (pair : ℕ × ℕ). pair.0) pairs) where
  parts : count_by (is_near reach) (take n pairs) + count_by (is_near reach) (drop n pairs)
      ≡ count_by (is_near reach) pairs
  parts = sum_by-take-drop (λ (pair : ℕ × ℕ). cond (is_near reach pair) 1 0) pairs n

  -- where the last of the first n is near, they all are
  at_least : (e : ℕ × ℕ) →
      0 < n → n ≤ length pairs → (get_or pairs (n - 1) e).0 ≤ reach → n ≤ count_by (is_near reach) pairs
  at_least e some within near =
      let first = count_all (is_near reach) (take n pairs) (λ k f inside.
      let below : k < n = omega (arith, length-take n pairs) in
      ap (λ (pair : ℕ × ℕ). is_near reach pair) (get_or-take n pairs k f below)
      ∙ le-leb _ _ (omega (
        arith,
        order k (n - 1) f (omega arith) (omega arith),
        ap (λ (pair : ℕ × ℕ). pair.0) (same_at (n - 1) f (omega arith)),
      ))) in
      omega (arith, parts, first, length-take n pairs)
    where
      same_at : (k : ℕ) (f : ℕ × ℕ) → k < length pairs → get_or pairs k f ≡ get_or pairs k e
      same_at k f inside = get_or_default pairs k f e inside

  -- where the one behind the first n isn't near, no other is
  at_most : (e : ℕ × ℕ) → n < length pairs → reach < (get_or pairs n e).0 → count_by (is_near reach) pairs ≤ n
  at_most e within far =
      let rest = count_none (is_near reach) (drop n pairs) (λ k f inside.
      let below : n + k < length pairs = omega (arith, length-drop n pairs) in
      ap (λ (pair : ℕ × ℕ). is_near reach pair) (get_or-drop n pairs k f)
      ∙ lt-leb _ _ (omega (
        arith,
        order n (n + k) f (omega arith) below,
        ap (λ (pair : ℕ × ℕ). pair.0) (get_or_default pairs n f e within),
      ))) in
      omega (arith, parts, rest, count_by-le-length (is_near reach) (take n pairs), length-take n pairs)

module _ (d : ℕ) (centre : List ℕ) (is : IsDimension d) (long : d ≤ length centre) where
  -- the box has the codes that are near
  same_test : (reach z : ℕ) → IsCode d z → is_inside (box_around d centre reach) z ≡ leb (distance d centre z) reach
  same_test reach z code = ⊎_elim
      (λ far. outside_fails (box_around d centre reach) z
      (λ inside. absurd (omega (arith, distance_from_inside d centre reach long z inside))) ∙ sym (lt-leb _ _ far))
      (λ near. inside_passes (box_around d centre reach) z (inside_from_distance d centre reach long z is code near)
      ∙ sym (le-leb _ _ near))
      (cases_lt reach (distance d centre z))

  same_count : (reach : ℕ) (codes : List ℕ) → All (IsCode d) codes
      → count_by (is_inside (box_around d centre reach)) codes ≡ count_by (is_near reach) (pairs_of d centre codes)
  same_count reach [] each = refl
  same_count reach (z ∷ codes) each =
      let here = ap one_if (same_test reach z (All-head (IsCode d) z codes each)) in
      omega (
        arith,
        count_more (is_inside (box_around d centre reach)) z codes,
        count_more (is_near reach) (distance d centre z, z) (pairs_of d centre codes),
        here,
        same_count reach codes (All-tail (IsCode d) z codes each),
      )

  module _ (codes : List ℕ)
      (each : All (IsCode d) codes) (all : List (ℕ × ℕ)) (sorted : AreSortedPairs d centre codes all) where
    count_within : (i : ℕ) → points_within d centre codes i ≡ count_by (is_near (2 ^ i - 1)) all
    count_within i =
        let reach = 2 ^ i - 1 in
        length-filter (is_inside (box_around d centre reach)) codes ∙ same_count reach codes each
        ∙ sym (sum_by-IsPermutation
        (λ (pair : ℕ × ℕ). cond (is_near reach pair) 1 0) (pairs_of d centre codes) all sorted.same)

    -- the least box that has the first n is that of the number of bits of the distance of the last of them
    pub least_from_bits : (n i : ℕ) (e : ℕ × ℕ) → 0 < n → n ≤ length all → (get_or all (n - 1) e).0 < 2 ^ i
        → ((j : ℕ) → j < i → 2 ^ j ≤ (get_or all (n - 1) e).0) → IsLeastBox d centre codes n i
    least_from_bits n i e some within below above = record {
      enough =
          omega (arith, count_within i, at_least (2 ^ i - 1) n all sorted.order.distances e some within (omega arith));
      least = λ j less. omega (
        arith,
        count_within j,
        pow_pos j,
        at_most
            (2 ^ j - 1) (n - 1) all sorted.order.distances e (omega arith) (omega (arith, above j less, pow_pos j)),
      );
    }

  -- the greatest distance of an answer tells its number of boxes
  pub boxes_from_last : (codes : List ℕ) (k n i boxes : ℕ) (points : List (ℕ × ℕ)) (e : ℕ × ℕ) →
      All (IsCode d) codes → AreNearest d centre codes k points
      → n ≡ length points →
      0 < n → HasBits (get_or points (n - 1) e).0 i → boxes ≡ 1 + i → AreBoxes d centre codes n boxes
  boxes_from_last codes k n i boxes points e each (all, sorted, first) long some bits more =
      let short = length-take k all in
      let long' : n ≡ length (take k all) = long ∙ ap length first in
      let last : get_or points (n - 1) e ≡ get_or all (n - 1) e =
      ap (λ (pairs : List (ℕ × ℕ)). get_or pairs (n - 1) e) first ∙ get_or-take k all (n - 1) e (omega arith) in
      let bits' = subst (λ (pair : ℕ × ℕ). HasBits pair.0 i) last bits in
      record {
        none = λ no. absurd (omega arith);
        some = λ _. (i, least_from_bits codes each all sorted n i e some (omega arith) bits'.0 bits'.1, more);
      }

  -- a centre has an answer
  pub an_answer : (codes : List ℕ) (k : ℕ) →
      All (IsCode d) codes → (answer : NearAnswer) × IsNear d centre codes k answer
  an_answer codes k each = ⊎_elim
      (λ some. let i = some_bits last in (
        record { points = points; boxes = 1 + i.0 },
        record {
          points = near.1;
          boxes =
              boxes_from_last codes k (length points) i.0 (1 + i.0) points (0, 0) each near.1 refl some i.1 refl;
        },
      ))
      (λ none. (
        record { points = points; boxes = 0 },
        record { points = near.1; boxes = record { none = λ _. refl; some = λ some. absurd (omega arith) } },
      ))
      (cases_lt 0 (length points))
    where
      near : (points : List (ℕ × ℕ)) × AreNearest d centre codes k points × (length points ≡ min (length codes) k)
      near = some_nearest d centre codes k (codes_small d centre is codes each)

      points : List (ℕ × ℕ)
      points = near.0

      last : ℕ
      last = (get_or points (length points - 1) (0, 0)).0
