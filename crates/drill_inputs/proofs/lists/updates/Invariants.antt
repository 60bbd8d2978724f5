-- The updates so far.
use Rattle.std.proofs.Common.{◌≡◌, ◌+◌, ◌*◌, ℕ, map}
use Rattle.std.specs.List.{range_with_len}
use Rattle.drill_inputs.specs.Draws.{state_after}
use Rattle.drill_inputs.specs.Inputs.{update_at}
use Rattle.drill_inputs.proofs.lists.updates.Given as goal

abbrev pub invariant-loop-place : goal.invariant-loop-place
invariant-loop-place l = (seed : ℕ) → l.initial.generator ≡ state_after seed (4 * l.n) →
    (l.updates.items ≡ map (update_at l.n seed) (range_with_len 0 l._place))
    × (l.generator ≡ state_after seed (4 * l.n + 2 * l._place))
