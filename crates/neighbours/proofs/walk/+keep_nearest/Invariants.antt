use Rattle.neighbours.proofs.walk.+keep_nearest.Given as goal

-- each half differs in fewer bits
abbrev pub decreases-keep_nearest : goal.decreases-keep_nearest
decreases-keep_nearest g l = l.bits
