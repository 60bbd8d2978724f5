-- All ones, without as many of the highest as stand above the difference.
use Rattle.std.proofs.Common.{◌-◌, arith}
use Rattle.std.proofs.lemmas.Nat.Bits.{ones_shr}
use Rattle.bigmin.proofs.PlaceLemmas.{marked-positive}
use Rattle.boxes.proofs.cells.ones_up_to_difference.Goals as goal

pub ilog2-requires : goal.ilog2-requires
ilog2-requires c = marked-positive _

pub returns : goal.returns
returns c =
    let places = 63 - c.ilog2.result in
    (64 - places, omega arith, ones_shr 64 places (omega arith))
