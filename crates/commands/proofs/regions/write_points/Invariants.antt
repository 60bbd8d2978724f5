use Rattle.std.proofs.Common.{drop, map}
use Rattle.written.proofs.LoopLemmas.{HasWritten}
use Rattle.commands.specs.Texts.Regions.{point_line}
use Rattle.commands.proofs.regions.write_points.Given as goal

-- the text lines of the codes before this place were written
abbrev pub invariant-loop-i : goal.invariant-loop-i
invariant-loop-i g l =
    HasWritten g.S.Sink l.fn.out l.out (map (point_line l.d) l.codes) (map (point_line l.d) (drop l.i l.codes))
