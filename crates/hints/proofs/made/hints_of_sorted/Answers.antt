-- The lines are over the points of the keys.
use Rattle.hints.proofs.made.hints_of_sorted.Goals as goal

pub returns : goal.returns
returns c = rw (← c.in_ok-own.ensures, ← c.points.ensures.ys, ← c.points.ensures.xs) c.hints_over.ensures
