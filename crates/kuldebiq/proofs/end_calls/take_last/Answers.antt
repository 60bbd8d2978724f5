use Rattle.log_levels.specs.Maps.{last_of}
use Rattle.kuldebiq.proofs.Ends.{takes-out, stays}
use Rattle.kuldebiq.proofs.end_calls.take_last.Goals as goal

pub returns-clause-taken : goal.returns-clause-taken
returns-clause-taken c =
    let pop = c.pop_last.ensures in
    takes-out last_of c.args.map.now c.pop_last.new.self c.pop_last.result c.write_taken.new.pair c.write_taken.result
    pop.last pop.none pop.taken c.write_taken.ensures.taken

pub returns-clause-unchanged : goal.returns-clause-unchanged
returns-clause-unchanged c = λ refused.
    let pop = c.pop_last.ensures in
    stays c.args.map.now c.pop_last.new.self c.pop_last.result c.write_taken.new.pair c.write_taken.result
    pop.unchanged_none pop.unchanged c.write_taken.ensures.taken refused
