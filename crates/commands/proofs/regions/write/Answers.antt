use Rattle.std.proofs.Common.{◌∙◌, ℕ, List, sym, subst}
use Rattle.std.specs.Prelude.{All}
use Rattle.zorder.specs.declared.regions.Region.{Region}
use Rattle.commands.specs.Texts.Regions.{TellsRegion}
use Rattle.commands.proofs.regions.write.Goals as goal

-- each region has an answer, since its greatest one was counted
pub write_answers-requires-clause-answered : goal.write_answers-requires-clause-answered
write_answers-requires-clause-answered g c =
    subst (All (λ (region : Region). (pieces : List (List ℕ)) × TellsRegion c.in_ok-boxes.boxes.codes region pieces))
    (c.deref-2.ensures.value ∙ sym c.deref-3.ensures.value) c.greatest_answer-room.ensures.answered
