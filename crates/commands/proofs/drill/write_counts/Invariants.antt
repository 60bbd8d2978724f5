use Rattle.std.proofs.Common.{drop}
use Rattle.written.proofs.LoopLemmas.{HasWritten}
use Rattle.commands.specs.Texts.Drill.{drill_lines}
use Rattle.commands.proofs.drill.write_counts.Given as goal

-- the text lines before this one were written
abbrev pub invariant-loop-i : goal.invariant-loop-i
invariant-loop-i g l =
    HasWritten g.S.Sink l.fn.out l.out
    (drill_lines l.drill.number l.drill.seed l.counts) (drop l.i (drill_lines l.drill.number l.drill.seed l.counts))
