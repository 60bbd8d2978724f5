use Rattle.std.proofs.Common.{drop, map}
use Rattle.written.proofs.LoopLemmas.{HasWritten}
use Rattle.commands.specs.Texts.Neighbours.{neighbour_line}
use Rattle.commands.proofs.neighbours.write_points.Given as goal

-- the text lines of the points before this place were written
abbrev pub invariant-loop-i : goal.invariant-loop-i
invariant-loop-i g l = HasWritten g.S.Sink l.fn.out l.out
    (map (neighbour_line l.d) l.points) (map (neighbour_line l.d) (drop l.i l.points))
