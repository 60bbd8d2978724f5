use Rattle.std.proofs.Common.{◌≡◌, ◌≤◌, length, drop}
use Rattle.exact_cross.specs.PointLists.{points_in}
use Rattle.index_file.specs.Judged.{first_start, AreJudged}
use Rattle.index_file.proofs.checking.is_level.Given as goal

-- the runs from the place `i` on are judged right, and the first of them begins at `end`
abbrev pub invariant-loop-i : goal.invariant-loop-i
invariant-loop-i l = record {
  within : l.end ≤ length l.points.xs.now;
  end : l.end ≡ first_start (drop l.i l.runs) (length l.points.xs.now);
  judged : AreJudged (points_in l.points) l.eps (drop l.i l.runs);
}
