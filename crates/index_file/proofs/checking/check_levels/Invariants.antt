use Rattle.index_file.proofs.RightLevels.{AreRightBelow}
use Rattle.index_file.proofs.checking.check_levels.Given as goal

-- the levels below are right, and the list has the x of this one
abbrev pub invariant-loop-level : goal.invariant-loop-level
invariant-loop-level l = AreRightBelow l.points.xs.now l.points.ys.now l.saved l.level l.list.items
