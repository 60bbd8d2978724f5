use Rattle.std.proofs.Common.{refl}
use Rattle.log_levels.specs.declared.update.Update.TheVariants.{Del}
use Rattle.log_levels.proofs.log_map.LogMap.del.Goals as goal

pub returns : goal.returns
returns c = c.add.ensures (Del c.args.key) tt refl
