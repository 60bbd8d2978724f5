-- The mask has a one at each place of the coordinate, and no other.
use Rattle.std.proofs.Common.{arith}
use Rattle.zorder.proofs.DilatedLemmas.{masked, moved_one, moved_zero}
use Rattle.zorder.proofs.dilated.dilated_coordinate.Goals as goal

pub returns : goal.returns
returns c =
    let d = c.args.d in
    masked d c.args.c c.args.z _ c.ranges.z.fits
    (λ i within own.
    moved_one d c.args.c c.places.result (omega arith) c.requires.within i c.places.ensures.ones within own)
    (λ i within other.
    moved_zero d c.args.c c.places.result (omega arith) c.requires.within i c.places.ensures.zeros within other)
