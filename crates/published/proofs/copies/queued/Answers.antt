use Rattle.std.proofs.Common.{[], ◌∷◌, ◌++◌, drop, ap, ◌∙◌}
use Rattle.published.specs.Histories.{Front}
use Rattle.published.proofs.copies.queued.Goals as goal

pub returns-in-Ok-clause-last : goal.returns-in-Ok-clause-last
returns-in-Ok-clause-last g c =
    let before = drop c.loop-turn.copies.behind c.loop-turn.copies.log.items in
    let pending = rw c.in-Ok.is at c.append.ensures.pending in
    (before, pending ∙ ap (λ (v : Front). before ++ v ∷ []) c.loop-turn.invariant.version)
