use Rattle.log_levels.specs.Maps.{first_of}
use Rattle.kuldebiq.proofs.Ends.{takes-out, stays}
use Rattle.kuldebiq.proofs.end_calls.take_first.Goals as goal

pub returns-clause-taken : goal.returns-clause-taken
returns-clause-taken c =
    let pop = c.pop_first.ensures in
    takes-out
    first_of c.args.map.now c.pop_first.new.self c.pop_first.result c.write_taken.new.pair c.write_taken.result
    pop.first pop.none pop.taken c.write_taken.ensures.taken

pub returns-clause-unchanged : goal.returns-clause-unchanged
returns-clause-unchanged c = λ refused.
    let pop = c.pop_first.ensures in
    stays c.args.map.now c.pop_first.new.self c.pop_first.result c.write_taken.new.pair c.write_taken.result
    pop.unchanged_none pop.unchanged c.write_taken.ensures.taken refused
