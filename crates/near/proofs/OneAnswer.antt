-- There is one list of nearest points, and one number of boxes.
use Rattle.std.proofs.Common.{◌≡◌, ⊎_elim, ℕ, zero, suc, ◌<◌, ◌^◌, ltb, if◌then◌else◌}
use Rattle.std.proofs.Common.{List, All, map, take, refl, sym, ap, ◌∙◌, arith}
use Rattle.std.specs.List.Sorted.{IsPermutation}
use Rattle.std.proofs.lemmas.Bool.{cases_order}
use Rattle.std.proofs.lemmas.List.Sorted.{IsPermutation-map, length_permutation, sum_by-IsPermutation}
use Rattle.boxes.proofs.OneCount.{same_sorted}
use Rattle.near.specs.Nearest.{AreBoxes, AreNearest, AreSortedPairs, IsLeastBox, pairs_of}
use Rattle.near.proofs.NearestLemmas.{small_have_codes}
use Rattle.near.specs.Kept.{rank}
use Rattle.near.proofs.Ranks.{rank_from_first, ranks_in_order, same_by_ranks}

one_order : (d : ℕ) (centre codes : List ℕ) (one two : List (ℕ × ℕ)) →
    All (λ z. z < 2 ^ 64) codes → AreSortedPairs d centre codes one → AreSortedPairs d centre codes two → one ≡ two
one_order d centre codes one two fit first second =
    let pairs = pairs_of d centre codes in
    let small = small_have_codes d centre codes one fit first.same in
    let small' = small_have_codes d centre codes two fit second.same in
    let from = map rank pairs in
    let moved : IsPermutation from (map rank one) = IsPermutation-map rank pairs one first.same in
    let moved' : IsPermutation from (map rank two) = IsPermutation-map rank pairs two second.same in
    same_by_ranks one two small small'
    (same_sorted (map rank one) (map rank two)
    (ranks_in_order one (rank_from_first one small first.order))
    (ranks_in_order two (rank_from_first two small' second.order))
    (length_permutation from (map rank one) moved ∙ sym (length_permutation from (map rank two) moved'))
    (λ q. let f : ℕ → ℕ = λ key. if ltb key q then 1 else 0 in
    sum_by-IsPermutation f from (map rank one) moved ∙ sym (sum_by-IsPermutation f from (map rank two) moved')))

pub one_nearest : (d k : ℕ) (centre codes : List ℕ) (one two : List (ℕ × ℕ)) →
    All (λ z. z < 2 ^ 64) codes → AreNearest d centre codes k one → AreNearest d centre codes k two → one ≡ two
one_nearest d k centre codes one two fit first second =
    first.2 ∙ ap (λ (all : List (ℕ × ℕ)). take k all) (one_order d centre codes first.0 second.0 fit first.1 second.1)
    ∙ sym second.2

one_least : (d : ℕ) (centre codes : List ℕ) (found one two : ℕ) →
    IsLeastBox d centre codes found one → IsLeastBox d centre codes found two → one < two → ⊥
one_least d centre codes found one two first second less = omega (arith, first.enough, second.least one less)

pub one_boxes : (d found : ℕ) (centre codes : List ℕ) (one two : ℕ) →
    AreBoxes d centre codes found one → AreBoxes d centre codes found two → one ≡ two
one_boxes d zero centre codes one two first second = first.none refl ∙ sym (second.none refl)
one_boxes d (suc n) centre codes one two first second =
    let left = first.some (omega arith) in
    let right = second.some (omega arith) in
    ⊎_elim (λ same. omega (arith, left.2, right.2, same))
    (λ differ. ⊎_elim (λ less. absurd (one_least d centre codes (suc n) left.0 right.0 left.1 right.1 less))
    (λ more. absurd (one_least d centre codes (suc n) right.0 left.0 right.1 left.1 more)) differ)
    (cases_order left.0 right.0)
