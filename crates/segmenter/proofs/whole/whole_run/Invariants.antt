-- The pair that is tried next is one of the run's, and what is left of the steps is theirs.
use Rattle.std.proofs.Common.{◌+◌, ◌*◌, ◌-◌, ◌<◌, ◌≤◌}
use Rattle.segmenter.proofs.whole.whole_run.Given as goal

abbrev pub invariant-loop : goal.invariant-loop
invariant-loop g l = record {
  from_start : l.from ≤ l.a;
  rises : l.a < l.b;
  to_end : l.b < l.to;
  cost : l.steps + l.left ≤ l.fn.steps + 2 * (l.to - l.from);
}
