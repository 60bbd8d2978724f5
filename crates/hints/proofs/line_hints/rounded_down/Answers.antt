-- The product is whole, and the quotient fits.
use Rattle.std.proofs.Common.{◌*◌, ◌/◌, ◌%◌, ◌^◌, arith}
use Rattle.hints.proofs.RoundedLemmas.{down_near, slope_small}
use Rattle.hints.proofs.line_hints.rounded_down.Goals as goal

pub overflow_cast-result-2 : goal.overflow_cast-result-2
overflow_cast-result-2 c =
    let r = c.requires in
    let both = down_near c.args.rise c.args.run c.args.places c.from.result c.from-2.result r.positive r.low r.most
    c.from.ensures c.from-2.ensures in
    omega (
      arith,
      slope_small c.args.run c.args.rise (2 ^ c.args.places)
          (c.from.result * 2 ^ c.args.places % 2 ^ 128 / c.from-2.result) c.args.width r.positive r.low r.least r.climb
          (omega (arith, both.0, r.positive)),
    )

pub returns-clause-nearest : goal.returns-clause-nearest
returns-clause-nearest c =
    let r = c.requires in
    (down_near c.args.rise c.args.run c.args.places c.from.result c.from-2.result r.positive r.low r.most
    c.from.ensures c.from-2.ensures).1
