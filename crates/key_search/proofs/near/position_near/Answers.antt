-- The place brackets the question, so it is the position.
use Rattle.window_search.proofs.CallerLemmas.{bracket-lb}
use Rattle.key_search.proofs.near.position_near.Goals as goal

pub returns-then-brackets-clause-found : goal.returns-then-brackets-clause-found
returns-then-brackets-clause-found g c =
    bracket-lb _ _ _ (c.brackets.ensures.0 c.if-brackets.true) c.requires.never_falls
