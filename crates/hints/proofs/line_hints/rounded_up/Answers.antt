-- The product is whole, and the quotient fits.
use Rattle.std.proofs.Common.{◌+◌, ◌-◌, ◌*◌, ◌/◌, ◌%◌, ◌^◌, arith}
use Rattle.hints.proofs.RoundedLemmas.{up_near, slope_small}
use Rattle.hints.proofs.line_hints.rounded_up.Goals as goal

pub overflow_cast-result-2 : goal.overflow_cast-result-2
overflow_cast-result-2 c =
    let r = c.requires in
    let both = up_near c.args.rise c.args.run c.args.places c.from.result c.from-run.result r.positive r.low r.most
    c.from.ensures c.from-run.ensures in
    omega (
      arith,
      slope_small c.args.run c.args.rise (2 ^ c.args.places)
          ((c.from.result * 2 ^ c.args.places % 2 ^ 128 + (c.from-run.result - 1)) / c.from-run.result) c.args.width
          r.positive r.low r.least r.climb both.1,
    )

pub returns-clause-not_below : goal.returns-clause-not_below
returns-clause-not_below c =
    let r = c.requires in
    (up_near c.args.rise c.args.run c.args.places c.from.result c.from-run.result r.positive r.low r.most
    c.from.ensures c.from-run.ensures).0

pub returns-clause-small : goal.returns-clause-small
returns-clause-small c =
    let r = c.requires in
    let both = up_near c.args.rise c.args.run c.args.places c.from.result c.from-run.result r.positive r.low r.most
    c.from.ensures c.from-run.ensures in
    slope_small c.args.run c.args.rise (2 ^ c.args.places)
    ((c.from.result * 2 ^ c.args.places % 2 ^ 128 + (c.from-run.result - 1)) / c.from-run.result) c.args.width
    r.positive r.low r.least r.climb both.1
