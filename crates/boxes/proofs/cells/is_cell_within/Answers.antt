-- The cell's least and greatest numbers are on either side, and all between begin like them.
use Rattle.std.proofs.Common.{arith, w64}
use Rattle.std.specs.Int.{bit_not}
use Rattle.std.proofs.lemmas.Nat.{and_le_l, or_lt}
use Rattle.boxes.proofs.CellLemmas.{within_cell}
use Rattle.boxes.proofs.cells.is_cell_within.Goals as goal

pub returns-then-is_within : goal.returns-then-is_within
returns-then-is_within c =
    let first = c.args.first in
    let below = c.ones_up_to_difference-below.result in
    let (k, room, is) = c.ones_up_to_difference-below.ensures in
    λ passes w from to. within_cell k first below room c.ranges.first.fits c.ones_up_to_difference-below.type_inv is w
    (omega (arith, to, c.ranges.last.fits))
    (omega (arith, from, and_le_l first (bit_not w64 below))) (omega (arith, to, c.if-last-most.false))
    c.args.d c.args.low c.args.high (or_lt 64 first below c.ranges.first.fits c.ones_up_to_difference-below.type_inv)
    (c.is_within.ensures.0 c.if-is_within.true) (c.is_within-then-is_within.ensures.0 passes)
