use Rattle.std.proofs.Common.{drop}
use Rattle.written.proofs.LoopLemmas.{HasWritten}
use Rattle.commands.specs.Texts.Explain.{run_lines}
use Rattle.commands.proofs.explain.write_runs.Given as goal

-- the text lines of the runs before this place were written
abbrev pub invariant-loop-i : goal.invariant-loop-i
invariant-loop-i g l =
    HasWritten g.S.Sink l.fn.out l.out (run_lines l.segments l.to) (run_lines (drop l.i l.segments) l.to)
