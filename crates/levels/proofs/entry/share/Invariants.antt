-- The levels so far have their share of steps.
use Rattle.std.proofs.Common.{◌+◌, ◌-◌, ◌*◌, ◌^◌, ◌≤◌}
use Rattle.levels.proofs.entry.share.Given as goal

abbrev pub invariant-loop-level : goal.invariant-loop-level
invariant-loop-level l = record {
  from : 1 ≤ l._level;
  to : l._level ≤ l.levels;
  share : l.most ≤ (4 * (2 * l.eps_rec + 3)) ^ (l._level - 1);
}
