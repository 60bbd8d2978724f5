use Rattle.std.proofs.Common.{drop}
use Rattle.written.proofs.LoopLemmas.{HasWritten}
use Rattle.commands.specs.Texts.Hints.{hint_pieces}
use Rattle.commands.proofs.hint_numbers.write_hints.Given as goal

-- the bytes of the hints before this place were written
abbrev pub invariant-loop-i : goal.invariant-loop-i
invariant-loop-i g l = HasWritten g.S.Sink l.fn.out l.out (hint_pieces l.hints) (hint_pieces (drop l.i l.hints))
