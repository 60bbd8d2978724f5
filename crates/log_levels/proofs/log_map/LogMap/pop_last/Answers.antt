use Rattle.std.proofs.Common.{◌++◌, ◌∷◌, [], ◌∙◌}
use Rattle.log_levels.specs.Accepted.{entries_of}
use Rattle.log_levels.specs.Shapes.{StandsFor}
use Rattle.log_levels.specs.declared.update.Update.TheVariants.{Del}
use Rattle.log_levels.proofs.BareLemmas.{value-none, value-taken-last}
use Rattle.log_levels.proofs.SearchLemmas.{one-value}
use Rattle.log_levels.proofs.log_map.LogMap.pop_last.Goals as goal

pub leave_bare-requires : goal.leave_bare-requires
leave_bare-requires c = λ entries key cut at_least within.
    let (updates, stands) = c.accepted.ensures.stands in
    let taken = updates ++ Del c.in-Some.key ∷ [] in
    let now : StandsFor c.del.new.self taken = c.in-Ok.ensures.applied updates stands in
    one-value c.del.new.self entries (entries_of taken) key cut now
    ∙ value-none taken key
    (value-taken-last updates c.in-Some.key c.in-Some.value key (c.in-Some.ensures updates stands) at_least within)

pub returns-in-Ok-clause-none : goal.returns-in-Ok-clause-none
returns-in-Ok-clause-none c = λ updates stands none. let is = c.in-Some.ensures updates stands in cc

pub returns-in-Err-clause-none : goal.returns-in-Err-clause-none
returns-in-Err-clause-none c = λ updates stands none. let is = c.in-Some.ensures updates stands in cc

pub returns-in-Err-clause-unchanged : goal.returns-in-Err-clause-unchanged
returns-in-Err-clause-unchanged c = let (updates, stands) = c.accepted.ensures.stands in c.in-Err.ensures.unchanged
