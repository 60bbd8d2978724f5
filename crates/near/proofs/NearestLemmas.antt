-- The first of all pairs, in order, are the nearest points.
use Rattle.std.proofs.Common.{◌≡◌, ℕ, ◌^◌, ◌<◌, ◌≤◌, List, [], ◌++◌, length, get_or}
use Rattle.std.proofs.Common.{take, All, min, refl, sym, ap, ◌∙◌, subst, arith}
use Rattle.std.specs.List.Sorted.{IsPermutation, IsSortedBy}
use Rattle.std.proofs.lemmas.List.{length-map, length-take, nil_from_length, take-append-le, take_all, take_min}
use Rattle.std.proofs.lemmas.List.Elements.{All-map, All-take}
use Rattle.std.proofs.lemmas.List.Sorted.{All-permutation, IsPermutation-append}
use Rattle.std.proofs.lemmas.List.Sorted.{IsPermutation-trans, length_permutation}
use Rattle.zorder.specs.Codes.{IsCode, IsDimension}
use Rattle.zorder.proofs.CallerLemmas.{code_fits}
use Rattle.near.specs.Around.{distance}
use Rattle.near.specs.Kept.{AreFirst, rank}
use Rattle.near.specs.Nearest.{AreNearest, pairs_of}
use Rattle.near.proofs.InOrder.{append_in_order, in_order_exists}
use Rattle.near.proofs.Ranks.{HaveCodes, first_from_rank, rank_from_sort, stands_before}

abbrev with_distance : ℕ → List ℕ → ℕ → ℕ × ℕ
with_distance d centre z = (distance d centre z, z)

-- what holds of each code holds of those in the pairs, in any order
pub each_in_pairs : (d : ℕ) (centre codes : List ℕ) (pairs : List (ℕ × ℕ)) (P : ℕ → Type 0) →
    All P codes → IsPermutation (pairs_of d centre codes) pairs → All (λ pair. P pair.1) pairs
each_in_pairs d centre codes pairs P each same =
    All-permutation (λ (pair : ℕ × ℕ). P pair.1)
    (pairs_of d centre codes) pairs same (All-map (λ (pair : ℕ × ℕ). P pair.1) (with_distance d centre) codes each)

pub small_have_codes : (d : ℕ) (centre codes : List ℕ) (pairs : List (ℕ × ℕ)) →
    All (λ z. z < 2 ^ 64) codes → IsPermutation (pairs_of d centre codes) pairs → HaveCodes pairs
small_have_codes d centre codes pairs small same = each_in_pairs d centre codes pairs (λ z. z < 2 ^ 64) small same

-- the nearest points have codes of the points
pub nearest_codes : (d : ℕ) (centre codes : List ℕ) (k : ℕ) (points : List (ℕ × ℕ)) (P : ℕ → Type 0) →
    All P codes → AreNearest d centre codes k points → All (λ pair. P pair.1) points
nearest_codes d centre codes k points P each near =
    subst (All (λ (pair : ℕ × ℕ). P pair.1)) (sym near.2)
    (All-take (λ (pair : ℕ × ℕ). P pair.1) k near.0 (each_in_pairs d centre codes near.0 P each near.1.same))

-- there are nearest points, as many as are asked for or as there are
pub some_nearest : (d : ℕ) (centre codes : List ℕ) (k : ℕ) → All (λ z. z < 2 ^ 64) codes
    → (points : List (ℕ × ℕ)) × AreNearest d centre codes k points × (length points ≡ min (length codes) k)
some_nearest d centre codes k small =
    let pairs = pairs_of d centre codes in
    let all = in_order_exists rank pairs in
    let long : length all.0 ≡ length codes = length_permutation pairs all.0 all.1
    ∙ length-map codes (with_distance d centre) in
    let have = small_have_codes d centre codes all.0 small all.1 in (
      take k all.0,
      (all.0, record { same = all.1; order = first_from_rank all.0 have all.2 }, refl),
      omega (arith, length-take k all.0),
    )

-- of no code, or with k 0, nothing is nearest
pub none_nearest : (d : ℕ) (centre codes : List ℕ) (k : ℕ) →
    All (λ z. z < 2 ^ 64) codes → min (length codes) k ≡ 0 → AreNearest d centre codes k []
none_nearest d centre codes k small none =
    let some = some_nearest d centre codes k small in
    subst (AreNearest d centre codes k) (nil_from_length some.0 (some.2 ∙ none)) some.1

module _ (d : ℕ) (centre : List ℕ) (is : IsDimension d) where
  pub codes_small : (codes : List ℕ) → All (λ z. IsCode d z) codes → All (λ z. z < 2 ^ 64) codes
  codes_small codes each k e within = code_fits d (get_or codes k e) is (each k e within)

  -- the first of all pairs, once they are in order, are the nearest
  pub nearest_from_first : (codes : List ℕ) (k : ℕ) (first points : List (ℕ × ℕ)) →
      All (λ z. IsCode d z) codes → AreFirst (pairs_of d centre codes) first
      → IsPermutation first points →
      IsSortedBy stands_before points → length points ≡ min (length codes) k → AreNearest d centre codes k points
  nearest_from_first codes k first points each is_first same sorted few =
      let pairs = pairs_of d centre codes in
      let others = in_order_exists rank is_first.others in
      let all = points ++ others.0 in
      let whole : IsPermutation pairs all =
      IsPermutation-trans pairs (first ++ is_first.others) all is_first.same
      (IsPermutation-append first points is_first.others others.0 same others.1) in
      let have = small_have_codes d centre codes all (codes_small codes each) whole in
      let order = rank_from_sort points (All-left points others.0 have) sorted in
      let below = All-permutation (λ (pair : ℕ × ℕ). rank pair ≤ is_first.worst) first points same is_first.below in
      let above = All-permutation
      (λ (pair : ℕ × ℕ). is_first.worst ≤ rank pair) is_first.others others.0 others.1 is_first.above in
      let long : length all ≡ length codes = length_permutation pairs all whole
      ∙ length-map codes (with_distance d centre) in
      let n = length points in
      let few' : n ≡ min k (length all) = omega arith in (
        all,
        record {
          same = whole;
          order =
              first_from_rank all have (append_in_order rank is_first.worst points others.0 order others.2 below above);
        },
        sym (take_all n points (omega arith))
            ∙ sym (take-append-le n points others.0 (omega arith)) ∙ ap (λ (m : ℕ). take m all) few' ∙ take_min k all,
      )
    where
      All-left : (xs ys : List (ℕ × ℕ)) → HaveCodes (xs ++ ys) → HaveCodes xs
      All-left xs ys all =
          subst HaveCodes (take-append-le (length xs) xs ys (omega arith) ∙ take_all (length xs) xs (omega arith))
          (All-take (λ (pair : ℕ × ℕ). pair.1 < 2 ^ 64) (length xs) (xs ++ ys) all)
