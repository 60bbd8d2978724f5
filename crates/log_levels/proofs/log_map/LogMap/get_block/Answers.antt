use Rattle.std.proofs.Common.{◌∙◌}
use Rattle.log_levels.specs.Accepted.{entries_of}
use Rattle.log_levels.proofs.ManyLemmas.{values-after}
use Rattle.log_levels.proofs.log_map.LogMap.get_block.Goals as goal

pub returns : goal.returns
returns c = λ updates stands.
    c.write_values.ensures ∙ c.search_levels.ensures (entries_of updates) stands ∙ values-after updates c.args.keys.now
