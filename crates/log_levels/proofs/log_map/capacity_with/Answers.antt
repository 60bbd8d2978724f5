use Rattle.std.proofs.Common.{refl, arith}
use Rattle.log_levels.proofs.HeldLemmas.{capacity_is}
use Rattle.log_levels.proofs.log_map.capacity_with.Goals as goal

pub overflow_sub-result : goal.overflow_sub-result
overflow_sub-result c = omega (arith, capacity_is c.args.levels c.args.levels refl c.requires)

pub returns : goal.returns
returns c = omega (arith, (capacity_is c.args.levels c.args.levels refl c.requires).0)
