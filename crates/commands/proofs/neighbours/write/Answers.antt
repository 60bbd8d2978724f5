use Rattle.std.proofs.Common.{◌∙◌, ℕ, List, sym, subst}
use Rattle.std.specs.Prelude.{All}
use Rattle.commands.specs.declared.task.Centre.{Centre}
use Rattle.commands.specs.Texts.Neighbours.{TellsNear}
use Rattle.commands.proofs.neighbours.write.Goals as goal

-- each centre has an answer, since its boxes were counted
pub write_answers-requires-clause-answered : goal.write_answers-requires-clause-answered
write_answers-requires-clause-answered g c =
    subst (All (λ (centre : Centre). (pieces : List (List ℕ))
    × TellsNear c.in_ok-boxes.boxes.dims c.in_ok-boxes.boxes.codes centre pieces))
    (c.deref-2.ensures.value ∙ sym c.deref-3.ensures.value) c.greatest_room-room.ensures.answered
