-- The first x of the runs so far.
use Rattle.std.proofs.Common.{◌≡◌, take}
use Rattle.index_file.specs.Judged.{start_xs}
use Rattle.index_file.proofs.checking.start_xs_of.Given as goal

abbrev pub invariant-loop-run : goal.invariant-loop-run
invariant-loop-run l = l.list.items ≡ start_xs l.xs (take l.run-index l.runs)
