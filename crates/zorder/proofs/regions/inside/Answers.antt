use Rattle.std.proofs.Common.{arith}
use Rattle.zorder.proofs.RegionLemmas.{inside_between}
use Rattle.zorder.proofs.regions.inside.Goals as goal

pub returns-clause-corners : goal.returns-clause-corners
returns-clause-corners c =
    inside_between c.args.region.now c.args.z c.requires.region c.requires.code
    (λ k within. (
      omega (arith, c.loop-c.invariant k (omega arith), c.decode-coords.ensures.coordinates k within),
      omega (arith, c.loop-c.invariant k (omega arith), c.decode-coords.ensures.coordinates k within),
    ))
