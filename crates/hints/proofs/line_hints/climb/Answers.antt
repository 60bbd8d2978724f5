-- The climb of a line has fewer than 100 bits.
use Rattle.std.proofs.Common.{arith}
use Rattle.std.proofs.lemmas.Int.{ints}
use Rattle.hints.proofs.RoundedLemmas.{climb_small}
use Rattle.hints.proofs.line_hints.climb.Goals as goal

pub returns-clause-not_high : goal.returns-clause-not_high
returns-clause-not_high c =
    let small = climb_small c.args.x0 c.args.rise c.args.run c.args.x c.floor_at.result c.requires.positive
    (omega (arith, c.requires.low)) (omega (arith, c.ranges.x0.fits))
    (omega (arith, c.ranges.x.fits)) c.floor_at.ensures.exact in
    omega (arith, ints, small.0, small.1)

pub returns-clause-not_low : goal.returns-clause-not_low
returns-clause-not_low c =
    let small = climb_small c.args.x0 c.args.rise c.args.run c.args.x c.floor_at.result c.requires.positive
    (omega (arith, c.requires.low)) (omega (arith, c.ranges.x0.fits))
    (omega (arith, c.ranges.x.fits)) c.floor_at.ensures.exact in
    omega (arith, ints, small.0, small.1)
