use Rattle.std.proofs.Common.{◌∙◌, ◌++◌, ◌∷◌, [], List, subst}
use Rattle.std.specs.Prelude.{IfOk}
use Rattle.std.proofs.lemmas.List.{append_assoc}
use Rattle.clap.specs.Words.{Rule}
use Rattle.command_line.specs.Application.{IsCommandOf, eps_rule, eps_rec_rule, workers_rule}
use Rattle.command_line.proofs.definition.with_bounds.Goals as goal

pub returns : goal.returns
returns c = λ name rules made.
    let recs = c.with-command.ensures _ _ _ (c.with.ensures name rules _ made c.eps.ensures) c.eps_rec.ensures in
    subst (λ (all : List Rule). IfOk c.with-2.result (IsCommandOf name all))
    (append_assoc (rules ++ eps_rule ∷ []) (eps_rec_rule ∷ []) (workers_rule ∷ [])
    ∙ append_assoc rules (eps_rule ∷ []) (eps_rec_rule ∷ workers_rule ∷ []))
    (c.with-2.ensures _ _ _ recs c.workers.ensures)
