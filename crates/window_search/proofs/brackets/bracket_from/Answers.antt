-- The places that the steps lead to, and halving between them.
use Rattle.window_search.proofs.Reaching.{bracket-lb, reads_near}
use Rattle.window_search.proofs.brackets.bracket_from.Goals as goal

pub returns-clause-found : goal.returns-clause-found
returns-clause-found g c = λ order. bracket-lb _ _ _ c.halve.ensures.bracket order

pub returns-clause-cost : goal.returns-clause-cost
returns-clause-cost g c =
    let reached = c.reach_from-low.ensures.reached in
    let near =
    reads_near _ _ _ c.halve.result _ _ _ reached c.halve.ensures.from c.halve.ensures.to c.halve.ensures.cost in
    rw (c.min-from.ensures, c.len.ensures) at near
