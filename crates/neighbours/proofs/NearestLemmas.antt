-- What was chosen of all places, once it is in order, is the nearest.
use Rattle.std.proofs.Common.{◌≡◌, ℕ, zero, suc, ◌+◌, ◌<◌, ◌≤◌, List, [], ◌∷◌, ◌++◌}
use Rattle.std.proofs.Common.{length, get_or, refl, sym, ap, ◌∙◌, arith}
use Rattle.std.specs.List.Sorted.{IsNonDecreasingBy, IsPermutation}
use Rattle.std.proofs.lemmas.List.{ext_get_or, take-append-le, take_all}
use Rattle.std.proofs.lemmas.List.Sorted.{All-permutation, IsNonDecreasingBy-short, IsPermutation-append_left}
use Rattle.std.proofs.lemmas.List.Sorted.{IsPermutation-append_right, IsPermutation-refl, IsPermutation-trans}
use Rattle.neighbours.specs.declared.neighbour.Neighbour.{Neighbour}
use Rattle.neighbours.specs.Chosen.{AreChosen}
use Rattle.neighbours.specs.Neighbours.{AreNearestPlaces, AreSomePlaces, neighbour_at, neighbours_from, rank_of}
use Rattle.neighbours.proofs.InOrder.{append_in_order, in_order_exists}
use Rattle.neighbours.proofs.KeptLemmas.{Places}

pub chosen_permuted : (P : Type 0) (all xs ys : Places) → IsPermutation xs ys → AreChosen P all xs → AreChosen P all ys
chosen_permuted P all xs ys same chosen = record {
  others = chosen.others;
  same = IsPermutation-trans all (xs ++ chosen.others) (ys ++ chosen.others) chosen.same
      (IsPermutation-append_left chosen.others xs ys same);
  worst = chosen.worst;
  below = All-permutation (λ (one : Neighbour). rank_of one ≤ chosen.worst) xs ys same chosen.below;
  above = chosen.above;
}

module _ (far : ℕ → ℕ) (codes : List ℕ) where
  pub some_from_chosen : (P : Type 0) (xs : Places) → AreChosen P (neighbours_from far 0 codes) xs
      → IsNonDecreasingBy rank_of xs → AreSomePlaces far codes xs
  some_from_chosen P xs chosen order = record { others = chosen.others; same = chosen.same; order = order }

  pub nearest_from_chosen : (P : Type 0) (k : ℕ) (xs : Places) → AreChosen P (neighbours_from far 0 codes) xs
      → IsNonDecreasingBy rank_of xs → k ≡ length xs → P → AreNearestPlaces far codes k xs
  nearest_from_chosen P k xs chosen order long p =
      let rest = in_order_exists rank_of chosen.others in
      let above = All-permutation (λ (one : Neighbour). chosen.worst ≤ rank_of one) chosen.others rest.0 rest.1
      (chosen.above p) in (
        xs ++ rest.0,
        IsPermutation-trans (neighbours_from far 0 codes) (xs ++ chosen.others) (xs ++ rest.0) chosen.same
            (IsPermutation-append_right xs chosen.others rest.0 rest.1),
        append_in_order rank_of chosen.worst xs rest.0 order rest.2 chosen.below above,
        sym (take_all k xs (omega (arith, long))) ∙ sym (take-append-le k xs rest.0 (omega (arith, long))),
      )

  -- where nothing is asked for
  pub none_are_some : AreSomePlaces far codes []
  none_are_some = record {
    others = neighbours_from far 0 codes;
    same = IsPermutation-refl (neighbours_from far 0 codes);
    order = IsNonDecreasingBy-short rank_of [] (omega arith);
  }

  pub none_are_nearest : AreNearestPlaces far codes 0 []
  none_are_nearest =
      let all = in_order_exists rank_of (neighbours_from far 0 codes) in
      (all.0, all.1, all.2, refl)

-- ---- the places of codes, one by one

pub length_places : (far : ℕ → ℕ) (place : ℕ) (codes : List ℕ) → length (neighbours_from far place codes) ≡ length codes
unfolding neighbours_from
length_places far place [] = refl
length_places far place (z ∷ codes) = ap suc (length_places far (suc place) codes)

pub place_at : (far : ℕ → ℕ) (place : ℕ) (codes : List ℕ) (k : ℕ) → k < length codes
    → get_or (neighbours_from far place codes) k (neighbour_at 0 0) ≡ neighbour_at (far (get_or codes k 0)) (place + k)
unfolding neighbours_from
place_at far place [] k within = absurd (omega arith)
place_at far place (z ∷ codes) zero within =
    let same : place ≡ place + 0 = omega arith in ap (neighbour_at (far z)) same
place_at far place (z ∷ codes) (suc k) within =
    let same : suc place + k ≡ place + suc k = omega arith in
    place_at far (suc place) codes k (omega arith) ∙ ap (neighbour_at (far (get_or codes k 0))) same

pub written_whole : (far : ℕ → ℕ) (place : ℕ) (codes : List ℕ) (places : Places) → length places ≡ length codes
    → ((k : ℕ) →
    k < length codes → get_or places k (neighbour_at 0 0) ≡ neighbour_at (far (get_or codes k 0)) (place + k))
    → places ≡ neighbours_from far place codes
written_whole far place codes places long each =
    ext_get_or (neighbour_at 0 0) places (neighbours_from far place codes)
    (long ∙ sym (length_places far place codes)) (λ k within.
    let within' : k < length codes = omega arith in
    each k within' ∙ sym (place_at far place codes k within'))
