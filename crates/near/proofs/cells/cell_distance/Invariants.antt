-- No code between the two is nearer by the coordinates so far.
use Rattle.std.proofs.Common.{ℕ, ◌≤◌}
use Rattle.zorder.specs.Codes.{IsCode}
use Rattle.near.specs.Around.{distance}
use Rattle.near.proofs.cells.cell_distance.Given as goal

abbrev pub invariant-loop-c : goal.invariant-loop-c
invariant-loop-c l = (z : ℕ) → IsCode l.d z → l.first ≤ z → z ≤ l.last → l.greatest ≤ distance l.d l.centre z
