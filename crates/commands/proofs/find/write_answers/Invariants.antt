use Rattle.std.proofs.Common.{drop}
use Rattle.written.proofs.LoopLemmas.{HasWritten}
use Rattle.commands.specs.Texts.Find.{found_lines}
use Rattle.commands.proofs.find.write_answers.Given as goal

-- the text lines of the questions before this place were written
abbrev pub invariant-loop-i : goal.invariant-loop-i
invariant-loop-i g l = HasWritten g.S.Sink l.fn.out l.out
    (found_lines l.sorted.keys.items l.questions) (found_lines l.sorted.keys.items (drop l.i l.questions))
