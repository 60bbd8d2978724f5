use Rattle.std.proofs.Common.{is_some, sym, ap, ◌∙◌}
use Rattle.log_levels.specs.Maps.{map_after}
use Rattle.log_levels.proofs.EndLemmas.{empty-first}
use Rattle.log_levels.proofs.log_map.LogMap.is_empty.Goals as goal

pub returns : goal.returns
returns c = λ updates stands. empty-first
    (map_after updates) c.is_none.result (ap is_some (sym (c.first.ensures updates stands)) ∙ c.is_none.ensures)
