-- All codes lie between the first and the last.
use Rattle.std.proofs.Common.{◌-◌, length, get_or, arith}
use Rattle.std.proofs.lemmas.List.{get_or_default}
use Rattle.neighbours.proofs.walk.stretch_distance.Goals as goal

pub returns : goal.returns
returns g c = λ are k e within.
    let codes = c.args.codes.now in
    c.cell_distance.ensures (get_or codes k e) (are.each 0 0 (omega arith)) (are.each k e within)
    (omega (arith, are.never_falls 0 k 0 (omega arith) within, get_or_default codes k e 0 within))
    (omega (
      arith,
      are.never_falls k (length codes - 1) 0 (omega arith) (omega arith),
      get_or_default codes k e 0 within,
    ))
