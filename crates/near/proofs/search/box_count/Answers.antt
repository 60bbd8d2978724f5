-- How many bits the distance has.
use Rattle.std.proofs.Common.{arith}
use Rattle.std.proofs.lemmas.Nat.{leading_length}
use Rattle.near.proofs.BoxesLemmas.{bits_from_length}
use Rattle.near.proofs.search.box_count.Goals as goal

pub returns-clause-bits : goal.returns-clause-bits
returns-clause-bits c =
    let far = c.args.distance in
    let (m, count, below, above) = leading_length 32 far c.ranges.distance.fits in
    (m, omega (arith, count), bits_from_length far m below above)
