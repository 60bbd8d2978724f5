-- The keys so far, and the sum of the draws.
use Rattle.std.proofs.Common.{◌≡◌, map}
use Rattle.std.specs.List.{range_with_len}
use Rattle.drill_inputs.specs.Draws.{state_after}
use Rattle.drill_inputs.specs.Inputs.{key_at, sum_of_first}
use Rattle.drill_inputs.proofs.lists.keys.Given as goal

abbrev pub invariant-loop-place : goal.invariant-loop-place
invariant-loop-place l = record {
  keys : l.keys.items ≡ map (key_at l.initial.generator) (range_with_len 0 l._place);
  sum : l.key ≡ sum_of_first l.initial.generator l._place;
  state : l.generator ≡ state_after l.initial.generator l._place;
}
