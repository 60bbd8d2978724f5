use Rattle.std.proofs.Common.{◌++◌, ◌∷◌, [], ◌∙◌}
use Rattle.log_levels.specs.Accepted.{entries_of}
use Rattle.log_levels.specs.Shapes.{StandsFor}
use Rattle.log_levels.specs.declared.update.Update.TheVariants.{Del}
use Rattle.log_levels.proofs.BareLemmas.{value-none, value-taken}
use Rattle.log_levels.proofs.EndLemmas.{rest-first}
use Rattle.log_levels.proofs.SearchLemmas.{one-value}
use Rattle.log_levels.proofs.log_map.LogMap.pop_first.Goals as goal

pub returns-in_default-clause-rest : goal.returns-in_default-clause-rest
returns-in_default-clause-rest c = rest-first

pub leave_bare-requires : goal.leave_bare-requires
leave_bare-requires c = λ entries key cut above at_most.
    let (updates, stands) = c.accepted.ensures.stands in
    let taken = updates ++ Del c.in-Some.key ∷ [] in
    let now : StandsFor c.del.new.self taken = c.in-Ok.ensures.applied updates stands in
    one-value c.del.new.self entries (entries_of taken) key cut now
    ∙ value-none taken key
    (value-taken updates c.in-Some.key c.in-Some.value key (c.in-Some.ensures updates stands) at_most)

pub returns-in-Ok-clause-rest : goal.returns-in-Ok-clause-rest
returns-in-Ok-clause-rest c = rest-first

pub returns-in-Err-clause-rest : goal.returns-in-Err-clause-rest
returns-in-Err-clause-rest c = rest-first

pub returns-in-Ok-clause-none : goal.returns-in-Ok-clause-none
returns-in-Ok-clause-none c = λ updates stands none. let is = c.in-Some.ensures updates stands in cc

pub returns-in-Err-clause-none : goal.returns-in-Err-clause-none
returns-in-Err-clause-none c = λ updates stands none. let is = c.in-Some.ensures updates stands in cc

pub returns-in-Err-clause-unchanged : goal.returns-in-Err-clause-unchanged
returns-in-Err-clause-unchanged c = let (updates, stands) = c.accepted.ensures.stands in c.in-Err.ensures.unchanged
