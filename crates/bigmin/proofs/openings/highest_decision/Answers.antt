-- The highest one of the decisions is the highest decision; a one at place 0 stands for none.
use Rattle.std.proofs.Common.{arith}
use Rattle.bigmin.proofs.PlaceLemmas.{decided_either, highest_from_log, marked-positive}
use Rattle.bigmin.proofs.openings.highest_decision.Goals as goal

pub ilog2-requires : goal.ilog2-requires
ilog2-requires c = marked-positive _

pub returns-clause-highest : goal.returns-clause-highest
returns-clause-highest c =
    highest_from_log c.args.d c.args.z c.args.low c.args.high _ c.ilog2.result (omega (arith, c.requires))
    (λ t. decided_either c.args.d c.args.z c.args.low c.args.high c.highest_rises.result c.highest_rises-2.result t
    (c.highest_rises.ensures t) (c.highest_rises-2.ensures t))
    c.ilog2.ensures.power_le c.ilog2.ensures.next_power_gt
