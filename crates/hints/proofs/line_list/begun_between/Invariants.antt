use Rattle.std.proofs.Common.{◌+◌, ◌/◌, ◌≤◌, length}
use Rattle.hints.proofs.line_list.begun_between.Given as goal

-- as many lines are left as there are
abbrev pub invariant-loop-left : goal.invariant-loop-left
invariant-loop-left l = l.begun + l.left ≤ length l.lines / 3

abbrev pub decreases-loop-left : goal.decreases-loop-left
decreases-loop-left l = l.left
