-- Codes inside and outside a region at the front of what is left of a list.
use Rattle.std.proofs.Common.{◌≡◌, ℕ, zero, suc, ◌+◌, ◌-◌, ◌<◌, ◌≤◌, List, ◌∷◌, ◌++◌}
use Rattle.std.proofs.Common.{length, take, drop, slice_index, sym, ap, ◌∙◌, arith}
use Rattle.std.proofs.lemmas.Bool.{cond-true, cond-false}
use Rattle.std.proofs.lemmas.List.{drop_more}
use Rattle.zorder.specs.declared.regions.Region.{Region}
use Rattle.zorder.specs.Regions.{IsInside}
use Rattle.boxes.specs.BoxAnswers.{is_inside, codes_inside}
use Rattle.boxes.proofs.InsideTest.{inside_passes, outside_fails}

module _ (region : Region) (codes : List ℕ) where
  -- a code inside at the front of what is left
  pub inside_front : (i : ℕ) → i < length codes → IsInside region (slice_index codes i)
      → codes_inside region (drop i codes) ≡ slice_index codes i ∷ codes_inside region (drop (i + 1) codes)
  inside_front i within inside =
      let z = slice_index codes i in
      ap (codes_inside region) (drop_more codes i 0 within)
      ∙ cond-true (is_inside region z) (z ∷ codes_inside region (drop (i + 1) codes))
      (codes_inside region (drop (i + 1) codes)) (inside_passes region z inside)

  -- and a code outside there
  outside_front : (i : ℕ) → i < length codes → (IsInside region (slice_index codes i) → ⊥)
      → codes_inside region (drop i codes) ≡ codes_inside region (drop (i + 1) codes)
  outside_front i within outside =
      let z = slice_index codes i in
      ap (codes_inside region) (drop_more codes i 0 within)
      ∙ cond-false (is_inside region z) (z ∷ codes_inside region (drop (i + 1) codes))
      (codes_inside region (drop (i + 1) codes)) (outside_fails region z outside)

  -- codes outside, as many as there may be
  outside_fronts : (i count : ℕ) →
      i + count ≤ length codes → ((k : ℕ) → i ≤ k → k < i + count → IsInside region (slice_index codes k) → ⊥)
      → codes_inside region (drop i codes) ≡ codes_inside region (drop (i + count) codes)
  outside_fronts i zero within none =
      let same : i ≡ i + zero = omega arith in ap (λ (k : ℕ). codes_inside region (drop k codes)) same
  outside_fronts i (suc count) within none =
      let same : i + 1 + count ≡ i + suc count = omega arith in
      outside_front i (omega arith) (none i (omega arith) (omega arith))
      ∙ outside_fronts (i + 1) count (omega arith) (λ k from to. none k (omega arith) (omega arith))
      ∙ ap (λ (k : ℕ). codes_inside region (drop k codes)) same

  pub outside_skipped : (i j : ℕ) →
      i ≤ j → j ≤ length codes → ((k : ℕ) → i ≤ k → k < j → IsInside region (slice_index codes k) → ⊥)
      → codes_inside region (drop i codes) ≡ codes_inside region (drop j codes)
  outside_skipped i j up within none =
      let same : i + (j - i) ≡ j = omega arith in
      outside_fronts i (j - i) (omega arith) (λ k from to. none k from (omega arith))
      ∙ ap (λ (k : ℕ). codes_inside region (drop k codes)) same

  -- several codes inside at the front of what is left
  pub inside_fronts : (i count : ℕ) →
      i + count ≤ length codes → ((k : ℕ) → i ≤ k → k < i + count → IsInside region (slice_index codes k))
      → codes_inside region (drop i codes) ≡ take count (drop i codes) ++ codes_inside region (drop (i + count) codes)
  inside_fronts i zero within each =
      let same : i ≡ i + zero = omega arith in ap (λ (k : ℕ). codes_inside region (drop k codes)) same
  inside_fronts i (suc count) within each =
      let z = slice_index codes i in
      let same : i + 1 + count ≡ i + suc count = omega arith in
      inside_front i (omega arith) (each i (omega arith) (omega arith))
      ∙ ap (λ (xs : List ℕ). z ∷ xs)
      (inside_fronts (i + 1) count (omega arith) (λ k from to. each k (omega arith) (omega arith)))
      ∙ ap (λ (k : ℕ). z ∷ take count (drop (i + 1) codes) ++ codes_inside region (drop k codes)) same
      ∙ ap (λ (xs : List ℕ). take (suc count) xs ++ codes_inside region (drop (i + suc count) codes))
      (sym (drop_more codes i 0 (omega arith)))

  -- the codes inside from a place on: a stretch of them behind some outside, and those behind it
  pub stretch_and_rest : (from first end : ℕ) → from ≤ first → first ≤ end → end ≤ length codes
      → ((j : ℕ) → from ≤ j → j < first → IsInside region (slice_index codes j) → ⊥)
      → ((j : ℕ) → first ≤ j → j < end → IsInside region (slice_index codes j))
      → codes_inside region (drop from codes) ≡ take (end - first) (drop first codes)
      ++ codes_inside region (drop end codes)
  stretch_and_rest from first end onwards order within skipped inside =
      let place : first + (end - first) ≡ end = omega arith in
      outside_skipped from first onwards (omega arith) skipped
      ∙ inside_fronts first (end - first) (omega arith) (λ k low high. inside k low (omega arith))
      ∙ ap (λ (k : ℕ). take (end - first) (drop first codes) ++ codes_inside region (drop k codes)) place
