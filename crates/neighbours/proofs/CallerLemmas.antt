-- What the crates above cite of nearest places: that only the coordinates that count tell how far points are.
use Rattle.std.proofs.Common.{◌≡◌, ℕ, zero, suc, ◌<◌, List, [], ◌∷◌, ◌++◌}
use Rattle.std.proofs.Common.{slice_index, refl, ap, ◌∙◌, subst, arith}
use Rattle.std.specs.List.Sorted.{IsPermutation}
use Rattle.std.specs.Int.{abs_diff}
use Rattle.zorder.specs.Codes.{coordinate}
use Rattle.neighbours.specs.declared.neighbour.Neighbour.{Neighbour}
use Rattle.neighbours.specs.Around.{apart}
use Rattle.neighbours.specs.Metrics.{code_in, far, through}
use Rattle.neighbours.specs.Neighbours.{AreNearestPlaces, AreSomePlaces, neighbour_at, neighbours_from}

through_same : (step : ℕ → ℕ → ℕ) (one two : ℕ → ℕ) (n : ℕ) →
    ((c : ℕ) → c < n → one c ≡ two c) → through step one n ≡ through step two n
unfolding through
through_same step one two zero same = refl
through_same step one two (suc n) same =
    ap (λ (so_far : ℕ). step so_far (one n)) (through_same step one two n (λ c less. same c (omega arith)))
    ∙ ap (step (through step two n)) (same n (omega arith))

from_same : (one two : ℕ → ℕ) → ((z : ℕ) → one z ≡ two z) → (place : ℕ) (codes : List ℕ) →
    neighbours_from one place codes ≡ neighbours_from two place codes
unfolding neighbours_from
from_same one two same place [] = refl
from_same one two same place (z ∷ codes) =
    ap (λ (distance : ℕ). neighbour_at distance place ∷ neighbours_from one (suc place) codes) (same z)
    ∙ ap (λ (rest : List Neighbour). neighbour_at (two z) place ∷ rest) (from_same one two same (suc place) codes)

module _ (step : ℕ → ℕ → ℕ) (d : ℕ) (one two : List ℕ)
    (same : (c : ℕ) → c < d → slice_index one c ≡ slice_index two c) (codes : List ℕ) where
  all_same : neighbours_from (far step d one) 0 codes ≡ neighbours_from (far step d two) 0 codes
  all_same = from_same (far step d one) (far step d two) (λ z.
      through_same step (apart d one (code_in d z)) (apart d two (code_in d z)) d (λ c less.
      ap (λ (x : ℕ). abs_diff (coordinate d c (code_in d z)) x) (same c less))) 0 codes

  pub some_same : (xs : List Neighbour) →
      AreSomePlaces (far step d one) codes xs → AreSomePlaces (far step d two) codes xs
  some_same xs some = record {
    others = some.others;
    same = subst (λ (all : List Neighbour). IsPermutation all (xs ++ some.others)) all_same some.same;
    order = some.order;
  }

  pub nearest_same : (k : ℕ) (xs : List Neighbour) →
      AreNearestPlaces (far step d one) codes k xs → AreNearestPlaces (far step d two) codes k xs
  nearest_same k xs near =
      (near.0, subst (λ (all : List Neighbour). IsPermutation all near.0) all_same near.1, near.2, near.3)
