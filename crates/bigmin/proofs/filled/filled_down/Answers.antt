-- Each step fills twice as many places, and in the end none is left.
use Rattle.std.proofs.Common.{arith, ap, ◌∙◌, ◌*◌}
use Rattle.bigmin.proofs.FillLemmas.{filled_twice, filled_all}
use Rattle.bigmin.proofs.filled.filled_down.Goals as goal

pub loop-shift-preserved : goal.loop-shift-preserved
loop-shift-preserved c =
    let (count, some, width, so_far) = c.loop-shift.invariant in (
      count * 2,
      omega arith,
      ap (λ n. n * 2) width
          ∙ omega arith,
      filled_twice c.args.d count c.loop-shift.shift c.args.bits c.loop-shift.filled width so_far,
    )

pub returns : goal.returns
returns c =
    let (count, some, width, so_far) = c.loop-shift.invariant in
    filled_all c.args.d count c.loop-shift.shift c.args.bits c.loop-shift.filled width
    (omega (arith, c.loop-shift-test.false)) c.ranges.bits.fits so_far
