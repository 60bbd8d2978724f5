use Rattle.std.proofs.Common.{◌<◌}
use Rattle.exact_cross.specs.PointLists.{points_in}
use Rattle.exact_cross.specs.Lines.{FitsRun, rational}
use Rattle.exact_cross.proofs.line.Line.fits.Given as goal

-- the line fits the places so far
abbrev pub invariant-loop-place : goal.invariant-loop-place
invariant-loop-place l =
    (positive : 0 < l.self.run) × FitsRun (points_in l.points) l.eps (rational l.self positive) l.s l.place
