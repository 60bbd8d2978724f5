-- The bits of the bytes are those of their numbers.
use Rattle.std.proofs.Common.{◌^◌, ◌<◌, lit<, w8}
use Rattle.std.proofs.lemmas.Simd.{below_from_Fits, Each1-get_or}
use lib.Lanes.{digits_l, number_l}
use Rattle.zorder.proofs.ColumnLemmas.{digits_below, number_bit}
use Rattle.zorder.proofs.columns.numbers_of.Goals as goal

pub returns-clause-bits : goal.returns-clause-bits
returns-clause-bits c i m q h low within =
    number_bit c.args.bytes c.fits-bytes.0 (below_from_Fits w8 c.args.bytes c.fits-bytes.1) i h m q low within

pub returns-clause-range : goal.returns-clause-range
returns-clause-range c i h =
    Each1-get_or (λ x. x < 2 ^ 32) (digits_l (2 ^ 32) 4 (number_l 256 c.args.bytes)) i 0 h
    (digits_below (2 ^ 32) (lit< tt) 4 (number_l 256 c.args.bytes))
