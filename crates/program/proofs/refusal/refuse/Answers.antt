use Rattle.std.proofs.Common.{◌∙◌, [], ◌∷◌, ℕ, List, subst}
use Rattle.written.specs.Writing.{WritesUntilFault}
use Rattle.written.proofs.WritingLemmas.{until_fault}
use Rattle.program.proofs.refusal.refuse.Goals as goal

pub returns-clause-line : goal.returns-clause-line
returns-clause-line g c =
    subst (λ (p : List ℕ). WritesUntilFault g.S.Sink c.args.out.now c.hand_over.new.out (p ∷ []))
    (c.as_bytes.ensures ∙ c.fill_line.ensures) (until_fault c.hand_over.result c.hand_over.ensures)
