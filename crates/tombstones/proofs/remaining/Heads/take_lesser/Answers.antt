-- What is left of an ascending list is ascending.
use Rattle.tombstones.proofs.TakingLemmas.{ascending_drop}
use Rattle.tombstones.proofs.remaining.Heads.take_lesser.Goals as goal

pub returns-clause-newer_ascending : goal.returns-clause-newer_ascending
returns-clause-newer_ascending c =
    rw c.take_lesser-least.ensures.newer_left (ascending_drop _ _ c.requires.newer_ascending)

pub returns-clause-older_ascending : goal.returns-clause-older_ascending
returns-clause-older_ascending c =
    rw c.take_lesser-least.ensures.older_left (ascending_drop _ _ c.requires.older_ascending)
