use Rattle.std.proofs.Common.{refl}
use Rattle.log_levels.specs.declared.update.Update.TheVariants.{Put}
use Rattle.log_levels.proofs.log_map.LogMap.put.Goals as goal

pub returns : goal.returns
returns c = c.add.ensures (Put c.args.key c.args.value) tt refl
