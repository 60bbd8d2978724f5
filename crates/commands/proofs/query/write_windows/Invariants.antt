use Rattle.std.proofs.Common.{drop}
use Rattle.written.proofs.LoopLemmas.{HasWritten}
use Rattle.commands.specs.Texts.Query.{window_lines}
use Rattle.commands.proofs.query.write_windows.Given as goal

-- the text lines of the windows before this place were written
abbrev pub invariant-loop-i : goal.invariant-loop-i
invariant-loop-i g l = HasWritten g.S.Sink l.fn.out l.out (window_lines l.windows) (window_lines (drop l.i l.windows))
