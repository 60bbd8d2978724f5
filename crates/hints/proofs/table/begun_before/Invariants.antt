-- So many lines are there.
use Rattle.std.proofs.Common.{◌-◌, ◌/◌, ◌≤◌, length}
use Rattle.hints.proofs.table.begun_before.Given as goal

abbrev pub invariant-loop-begun : goal.invariant-loop-begun
invariant-loop-begun l = l.begun ≤ length l.lines / 3

abbrev pub decreases-loop-begun : goal.decreases-loop-begun
decreases-loop-begun l = length l.lines / 3 - l.begun
