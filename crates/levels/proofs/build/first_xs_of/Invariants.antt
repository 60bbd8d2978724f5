-- The first x of the runs so far.
use Rattle.std.proofs.Common.{◌≡◌, take}
use Rattle.exact_cross.specs.IndexLevels.{first_xs}
use Rattle.levels.proofs.build.first_xs_of.Given as goal

abbrev pub invariant-loop-segment : goal.invariant-loop-segment
invariant-loop-segment l = l.list.items ≡ first_xs l.xs (take l.segment-index l.segments)
