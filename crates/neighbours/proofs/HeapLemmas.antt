-- A heap of places has its last in front, and one that sinks makes a heap.
use Rattle.std.proofs.Common.{◌≡◌, ◌≢◌, ℕ, zero, suc, ◌+◌, ◌*◌, ◌/◌, ◌<◌, ◌≤◌}
use Rattle.std.proofs.Common.{List, length, get_or, All, inl, inr, arith, ap}
use Rattle.std.proofs.lemmas.Bool.{cases_eq}
use Rattle.std.proofs.lemmas.List.Edits.{Swapped}
use Rattle.std.proofs.lemmas.List.Elements.{All-from_get_or}
use Rattle.neighbours.specs.declared.neighbour.Neighbour.{Neighbour}
use Rattle.neighbours.specs.Chosen.{IsHeap}
use Rattle.neighbours.specs.Neighbours.{neighbour_at, rank_of}

abbrev pub rank_at : List Neighbour → ℕ → ℕ
rank_at pairs k = rank_of (get_or pairs k (neighbour_at 0 0))

-- none is behind the pair in front; `fuel` is above the place
front_last : (pairs : List Neighbour) →
    IsHeap 0 pairs → (fuel k : ℕ) → k < fuel → k < length pairs → rank_at pairs k ≤ rank_at pairs 0
front_last pairs heap zero k less within = absurd (omega arith)
front_last pairs heap (suc fuel) zero less within = omega arith
front_last pairs heap (suc fuel) (suc n) less within =
    let p = n / 2 in
    let above = heap p (suc n) (omega arith) (omega arith) (omega arith) within in
    omega (arith, above, front_last pairs heap fuel p (omega arith) (omega arith))

pub heap_front : (pairs : List Neighbour) → IsHeap 0 pairs → All (λ pair. rank_of pair ≤ rank_at pairs 0) pairs
heap_front pairs heap =
    All-from_get_or (λ (pair : Neighbour). rank_of pair ≤ rank_at pairs 0) pairs
    (neighbour_at 0 0) (λ k within. front_last pairs heap (suc k) k (omega arith) within)

-- while a pair at `at` sinks, all else is in order, and what is below it isn't behind what is above it
pub record IsSinking (from at : ℕ) (pairs : List Neighbour) : Type 0 where
  pub else_where : (p k : ℕ) →
      from ≤ p → p ≢ at → p * 2 + 1 ≤ k → k ≤ p * 2 + 2 → k < length pairs → rank_at pairs k ≤ rank_at pairs p
  pub over : (p k : ℕ) → from ≤ p → p * 2 + 1 ≤ at →
      at ≤ p * 2 + 2 → at * 2 + 1 ≤ k → k ≤ at * 2 + 2 → k < length pairs → rank_at pairs k ≤ rank_at pairs p

module _ (from at : ℕ) (pairs : List Neighbour) (sinks : IsSinking from at pairs) where
  module _ (child : ℕ) (left : at * 2 + 1 ≤ child) (right : child ≤ at * 2 + 2) (within : child < length pairs)
      (later : (k : ℕ) → at * 2 + 1 ≤ k → k ≤ at * 2 + 2 → k < length pairs → rank_at pairs k ≤ rank_at pairs child)
    where
      module _ (before : rank_at pairs at < rank_at pairs child)
          (low : from ≤ at) (pairs' : List Neighbour) (long : length pairs' ≡ length pairs)
          (moved : Swapped (λ i. get_or pairs i (neighbour_at 0 0)) (λ i. get_or pairs' i (neighbour_at 0 0)) at child)
        where
          moved_at : rank_at pairs' at ≡ rank_at pairs child
          moved_at = ap rank_of moved.0

          moved_child : rank_at pairs' child ≡ rank_at pairs at
          moved_child = ap rank_of moved.1

          unmoved : (k : ℕ) → k ≢ at → k ≢ child → rank_at pairs' k ≡ rank_at pairs k
          unmoved k not_at not_child = ap rank_of (moved.2 k not_at not_child)

          pub sinks_on : IsSinking from child pairs'
          sinks_on = record {
            else_where = λ p k from_low other left' right' within'. elim (cases_eq p at) [
              | inl is_at ↦ elim (cases_eq k child) [
                | inl is_child ↦
                    omega
                    (arith, ap (rank_at pairs') is_at, ap (rank_at pairs') is_child, moved_at, moved_child, before)
                | inr sibling ↦
                    omega (
                      arith,
                      ap (rank_at pairs') is_at,
                      moved_at,
                      unmoved k (omega (arith, is_at)) sibling,
                      later k (omega (arith, is_at)) (omega (arith, is_at)) (omega arith),
                    )
              ]
              | inr not_at ↦ elim (cases_eq k at) [
                | inl is_at ↦
                    omega (
                      arith,
                      ap (rank_at pairs') is_at,
                      moved_at,
                      unmoved p not_at other,
                      sinks.over p child from_low (omega (arith, is_at)) (omega (arith, is_at)) left right within,
                    )
                | inr k_not_at ↦
                    let k_not_child : k ≢ child = omega (arith, not_at, left, right) in
                    omega (
                      arith,
                      unmoved p not_at other,
                      unmoved k k_not_at k_not_child,
                      sinks.else_where p k from_low not_at left' right' (omega arith),
                    )
              ]
            ];
            over = λ p k from_low left' right' left'' right'' within'.
                let is_at : p ≡ at = omega arith in
                omega (
                  arith,
                  ap (rank_at pairs') is_at,
                  moved_at,
                  unmoved k (omega arith) (omega arith),
                  sinks.else_where child k (omega arith) (omega arith) left'' right'' (omega arith),
                );
          }
