use Rattle.std.proofs.Common.{length}
use Rattle.near.proofs.walk.+keep_nearest.Given as goal

-- each half has fewer codes
abbrev pub decreases-keep_nearest : goal.decreases-keep_nearest
decreases-keep_nearest l = length l.codes.now
