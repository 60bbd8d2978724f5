-- The read at the hint is one before those of the steps away from it.
use Rattle.window_search.proofs.Reaching.{reached_after, reached_at_once}
use Rattle.window_search.proofs.brackets.reach_from.Goals as goal
use Rattle.window_search.proofs.brackets.reach_from.Goals.{else-from-len-via-then-from-len+else-read-q}
use Rattle.window_search.proofs.brackets.reach_from.Goals.{else-from-len-via-else-from-len}

pub returns-then-read-q-clause-reached : goal.returns-then-read-q-clause-reached
returns-then-read-q-clause-reached g c = reached_after _ _ _ _ _ (rw c.read.ensures.cost at c.reach_up.ensures.reached)

pub returns-clause-reached : goal.returns-clause-reached
returns-clause-reached g c =
    elim c.else-from-len.branch [
      | else-from-len-via-then-from-len+else-read-q w ↦
          reached_after _ _ _ _ _ (rw (w.steps-is, w.read.ensures.cost) at c.reach_down.ensures.reached)
      | else-from-len-via-else-from-len w ↦ reached_at_once _ _ _ _ _ (rw w.steps-is at c.reach_down.ensures.reached)
    ]
