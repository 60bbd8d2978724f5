-- Both places stay near their ends, and each turn takes a step.
use Rattle.std.proofs.Common.{◌+◌, ◌<◌, ◌≤◌}
use Rattle.segmenter.proofs.whole.pair_at_ends.Given as goal

abbrev pub invariant-loop-i : goal.invariant-loop-i
invariant-loop-i g l = record {
  to_end : l.high < l.to;
  near : l.to ≤ l.high + 7;
  cost : l.steps + 1 ≤ l.fn.steps + l.i;
}

abbrev pub invariant-loop-i-2 : goal.invariant-loop-i-2
invariant-loop-i-2 g l = record {
  from_start : l.from ≤ l.low;
  near : l.low ≤ l.from + 6;
  cost : l.steps + 1 ≤ l.fn.steps + 6 + l.i;
}
