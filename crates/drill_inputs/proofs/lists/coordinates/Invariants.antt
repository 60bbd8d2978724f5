-- The coordinates so far.
use Rattle.std.proofs.Common.{◌≡◌, ◌+◌, ◌*◌, ℕ, map}
use Rattle.std.specs.List.{range_with_len}
use Rattle.drill_inputs.specs.Draws.{state_after}
use Rattle.drill_inputs.specs.Inputs.{coordinate_at}
use Rattle.drill_inputs.proofs.lists.coordinates.Given as goal

abbrev pub invariant-loop-place : goal.invariant-loop-place
invariant-loop-place l = (seed : ℕ) → l.initial.generator ≡ state_after seed (2 * l.n) →
    (l.coordinates.items ≡ map (coordinate_at l.n seed) (range_with_len 0 l._place))
    × (l.generator ≡ state_after seed (2 * l.n + l._place))
