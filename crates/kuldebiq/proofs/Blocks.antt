-- A block of positions behind those before it.
use Rattle.std.proofs.Common.{◌≡◌, ◌⊎◌, inl, inr, ℕ, ◌+◌, ◌-◌, ◌<◌, ◌≤◌, List, length}
use Rattle.std.proofs.Common.{map, take, drop, slice_index, get_or, sym, ap, ◌∙◌, arith}
use Rattle.std.proofs.lemmas.Bool.{cases_lt}
use Rattle.std.proofs.lemmas.List.{get_or-map, get_or-take, get_or-drop, length-map, length-take, length-drop}
use Rattle.window_search.specs.Searches.{lb}

-- the position at a place of the block
pub in_block : (keys questions : List ℕ) (from size j : ℕ) → from + size ≤ length questions → j < size
    → get_or (map (lb keys) (take (from + size - from) (drop from questions))) j 0
    ≡ lb keys (slice_index questions (from + j))
in_block keys questions from size j within inside =
    let n : ℕ = from + size - from in
    get_or-map (lb keys) (take n (drop from questions)) j 0 0
    (omega (arith, within, inside, length-take n (drop from questions), length-drop from questions))
    ∙ ap (lb keys) (get_or-take n (drop from questions) j 0 (omega (arith, inside)) ∙ get_or-drop from questions j 0)

-- the positions of the block, and those before it
pub up_to_block : (keys questions was now found : List ℕ) (from size : ℕ) → from + size ≤ length questions
    → found ≡ map (lb keys) (take (from + size - from) (drop from questions))
    → ((j : ℕ) → j < from → slice_index was j ≡ lb keys (slice_index questions j))
    → ((j : ℕ) → j < from → slice_index now j ≡ slice_index was j)
    → ((j : ℕ) → j < length found → slice_index now (from + j) ≡ slice_index found j)
    → (j : ℕ) → j < from + size → slice_index now j ≡ lb keys (slice_index questions j)
up_to_block keys questions was now found from size within is done kept copied j inside = at (cases_lt j from) where
  at : (j < from) ⊎ (from ≤ j) → slice_index now j ≡ lb keys (slice_index questions j)
  at (inl low) = kept j low ∙ done j low
  at (inr high) =
      let i : ℕ = j - from in
      let same : from + i ≡ j = omega arith in let low : i < size = omega (arith, inside, high) in
      let n : ℕ = from + size - from in
      let many : length found ≡ size = omega (
        arith,
        within,
        ap (λ (xs : List ℕ). length xs) is,
        length-map {B = ℕ} (take n (drop from questions)) (lb keys),
        length-take n (drop from questions),
        length-drop from questions,
      ) in
      ap (slice_index now) (sym same) ∙ copied i (omega (arith, low, many))
      ∙ ap (λ (xs : List ℕ). slice_index xs i) is ∙ in_block keys questions from size i within low
      ∙ ap (λ (k : ℕ). lb keys (slice_index questions k)) same
