use Rattle.std.proofs.Common.{◌≤◌, take}
use Rattle.std.specs.Prelude.{vec_capacity}
use Rattle.written.proofs.LoopLemmas.{HasTold}
use Rattle.commands.specs.Texts.Neighbours.{TellsNear}
use Rattle.commands.proofs.neighbours.write_answers.Given as goal

-- the answers of the centres before this place were written, and the room is there
abbrev pub invariant-loop-i : goal.invariant-loop-i
invariant-loop-i g l =
    HasTold g.S.Sink (TellsNear l.boxes.dims l.boxes.codes) l.fn.out l.out (take l.i l.centres)
    × (vec_capacity l.fn.points ≤ vec_capacity l.points)
