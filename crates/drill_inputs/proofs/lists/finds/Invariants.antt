-- The questions so far.
use Rattle.std.proofs.Common.{◌≡◌, ◌+◌, ℕ, map}
use Rattle.std.specs.List.{range_with_len}
use Rattle.drill_inputs.specs.Draws.{state_after}
use Rattle.drill_inputs.specs.Inputs.{find_at}
use Rattle.drill_inputs.proofs.lists.finds.Given as goal

abbrev pub invariant-loop-place : goal.invariant-loop-place
invariant-loop-place l = (seed : ℕ) → l.initial.generator ≡ state_after seed l.n →
    (l.finds.items ≡ map (find_at l.n seed) (range_with_len 0 l._place))
    × (l.generator ≡ state_after seed (l.n + l._place))
