-- What is filled, with nothing above it in its coordinate, is the highest place that differs.
use Rattle.std.proofs.Common.{arith}
use Rattle.bigmin.proofs.FillLemmas.{differs_from_bit, bit_from_differs}
use Rattle.bigmin.proofs.openings.highest_rises.Goals as goal

pub returns : goal.returns
returns c = λ t. (
  differs_from_bit c.args.d c.args.lesser c.args.greater c.filled_down-filled.result (omega (arith, c.requires))
      c.ranges.lesser.fits c.ranges.greater.fits c.filled_down-filled.ensures c.filled_down-filled.type_inv t,
  bit_from_differs c.args.d c.args.lesser c.args.greater c.filled_down-filled.result (omega (arith, c.requires))
      c.ranges.lesser.fits c.ranges.greater.fits c.filled_down-filled.ensures c.filled_down-filled.type_inv t,
)
