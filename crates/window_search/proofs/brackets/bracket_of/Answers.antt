-- All places are halved.
use Rattle.window_search.proofs.Reaching.{bracket-lb}
use Rattle.window_search.proofs.brackets.bracket_of.Goals as goal

pub returns-clause-found : goal.returns-clause-found
returns-clause-found g c = λ order. bracket-lb _ _ _ c.halve.ensures.bracket order
