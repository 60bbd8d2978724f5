use Rattle.std.proofs.Common.{drop, length}
use Rattle.std.specs.List.{flat_map}
use Rattle.exact_cross.specs.Points.{places}
use Rattle.written.proofs.LoopLemmas.{HasWritten}
use Rattle.commands.specs.Tasks.{bounds_of}
use Rattle.commands.specs.Texts.Build.{built_level}
use Rattle.commands.proofs.build.write_levels.Given as goal

-- what is told of the levels before this one was written
abbrev pub invariant-loop-i : goal.invariant-loop-i
invariant-loop-i g l =
    let told = built_level l.index.keys (bounds_of l.bounds) l.slack l.index.levels in
    HasWritten g.S.Sink l.fn.out l.out (flat_map told (places (length l.index.levels)))
    (flat_map told (drop l.i (places (length l.index.levels))))
