-- Which codes of a list that never falls aren't inside a region, behind one that isn't.
use Rattle.std.proofs.Common.{ℕ, ◌^◌, ◌<◌, ◌≤◌, List, length, slice_index, inl, inr, sym, subst, arith}
use Rattle.std.specs.List.Sorted.{IsNonDecreasing}
use Rattle.std.proofs.lemmas.Bool.{cases_eq}
use Rattle.zorder.specs.declared.regions.Region.{Region}
use Rattle.zorder.specs.Codes.{IsCode}
use Rattle.zorder.specs.Regions.{IsRegion, IsInside}
use Rattle.bigmin.specs.NextInBox.{IsNextInBox, HasNoNext}
use Rattle.bigmin.proofs.JumpLemmas.{IsCode-inside}

module _ (region : Region) (is : IsRegion region) (codes : List ℕ) (order : IsNonDecreasing codes)
    (at : ℕ) (outside : IsInside region (slice_index codes at) → ⊥)
    (j : ℕ) (from : at ≤ j) (within : j < length codes) (fits : slice_index codes j < 2 ^ 64) where
  here_is_code : IsInside region (slice_index codes j) → IsCode region.d (slice_index codes j)
  here_is_code inside = IsCode-inside region is (slice_index codes j) fits inside

  -- a code inside is above it
  above : IsInside region (slice_index codes j) → slice_index codes at < slice_index codes j
  above inside = elim (cases_eq (slice_index codes at) (slice_index codes j)) [
    | inl same ↦ absurd (outside (subst (IsInside region) (sym same) inside))
    | inr differ ↦ omega (arith, differ, order at j 0 from within)
  ]

  -- so there is none where no code above it is inside
  pub none_behind : HasNoNext region (slice_index codes at) → IsInside region (slice_index codes j) → ⊥
  none_behind none inside = none (slice_index codes j) (here_is_code inside) (above inside) inside

  -- nor below the next code inside
  pub none_below : (next : ℕ) → IsNextInBox region (slice_index codes at) next → slice_index codes j < next
      → IsInside region (slice_index codes j) → ⊥
  none_below next is_next less inside =
      omega (arith, less, is_next.least (slice_index codes j) (here_is_code inside) (above inside) inside)
