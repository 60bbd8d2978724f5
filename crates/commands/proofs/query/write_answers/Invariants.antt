use Rattle.std.proofs.Common.{◌≤◌, take}
use Rattle.std.specs.Prelude.{is_some, vec_capacity}
use Rattle.written.proofs.LoopLemmas.{HasTold}
use Rattle.commands.specs.Tasks.{bounds_of}
use Rattle.commands.specs.Texts.Query.{TellsAnswer}
use Rattle.commands.proofs.query.write_answers.Given as goal

-- the answers of the questions before this place were written, and the room is there
abbrev pub invariant-loop-i : goal.invariant-loop-i
invariant-loop-i g l =
    HasTold g.S.Sink (TellsAnswer l.keys (bounds_of l.bounds) (is_some l.told)) l.fn.out l.out (take l.i l.questions)
    × (vec_capacity l.fn.room ≤ vec_capacity l.room)
