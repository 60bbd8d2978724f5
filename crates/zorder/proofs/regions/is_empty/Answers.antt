use Rattle.std.proofs.Common.{arith}
use Rattle.zorder.proofs.RegionLemmas.{low_inside}
use Rattle.zorder.proofs.regions.is_empty.Goals as goal

pub returns-clause-low_inside : goal.returns-clause-low_inside
returns-clause-low_inside c = low_inside c.args.region.now c.requires (λ k within. c.loop-c.invariant k (omega arith))
