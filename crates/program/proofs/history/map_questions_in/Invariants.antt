use Rattle.std.proofs.Common.{◌≡◌, take}
use Rattle.program.specs.Inputs.{map_questions_in}
use Rattle.program.proofs.history.map_questions_in.Given as goal

-- those of the lines before this place
abbrev pub invariant-loop-i : goal.invariant-loop-i
invariant-loop-i l = l.questions.items ≡ map_questions_in (take l.i l.lines)
