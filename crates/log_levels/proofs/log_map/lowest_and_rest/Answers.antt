use Rattle.log_levels.proofs.OccupiedLemmas.{lowest-one}
use Rattle.log_levels.proofs.log_map.lowest_and_rest.Goals as goal

pub returns-clause-set : goal.returns-clause-set
returns-clause-set c = (lowest-one c.args.bits c.requires c.ranges.bits.fits).set

pub returns-clause-lowest : goal.returns-clause-lowest
returns-clause-lowest c = (lowest-one c.args.bits c.requires c.ranges.bits.fits).lowest

pub returns-clause-rest : goal.returns-clause-rest
returns-clause-rest c = (lowest-one c.args.bits c.requires c.ranges.bits.fits).rest
