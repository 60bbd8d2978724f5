use Rattle.std.proofs.Common.{drop}
use Rattle.written.proofs.LoopLemmas.{HasWritten}
use Rattle.map_commands.specs.MapLines.{read_lines}
use Rattle.map_commands.proofs.told.write_read.Given as goal

-- the lines of the readers before this one were written
abbrev pub invariant-loop-i : goal.invariant-loop-i
invariant-loop-i g l = HasWritten g.S.Sink l.fn.out l.out
    (read_lines l.updates l.questions 0 l.readings) (read_lines l.updates l.questions l.i (drop l.i l.readings))
