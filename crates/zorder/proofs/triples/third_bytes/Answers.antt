-- By the tables of their places.
use Rattle.std.proofs.Common.{◌+◌, ◌*◌, refl, ◌∙◌, arith, lit<, lit≤, w64}
use Rattle.std.proofs.lemmas.Simd.{below_from_Fits}
use Rattle.zorder.specs.declared.triples.TheConstants.{FROM_0_AND_1, FROM_2}
use Rattle.zorder.proofs.ThirdLemmas.{third_bit}
use Rattle.zorder.proofs.triples.third_bytes.Goals as goal

pub returns-clause-from_0 : goal.returns-clause-from_0
returns-clause-from_0 c i among m q low near =
    let codes = c.args.codes in
    c.numbers_of.ensures.bits i m q (omega arith) low near
    ∙ third_bit codes c.bits_in_thirds-bytes.result c.fits-codes.0
    (below_from_Fits w64 codes c.fits-codes.1) c.bits_in_thirds-bytes.ensures.bits
    FROM_0_AND_1 0 0 refl (lit≤ tt) (lit< tt) refl (4 * i + m) i m q (omega arith) among low near

pub returns-clause-from_1 : goal.returns-clause-from_1
returns-clause-from_1 c i among m q low near =
    let codes = c.args.codes in
    c.numbers_of.ensures.bits (2 + i) m q (omega arith) low near
    ∙ third_bit codes c.bits_in_thirds-bytes.result c.fits-codes.0
    (below_from_Fits w64 codes c.fits-codes.1) c.bits_in_thirds-bytes.ensures.bits
    FROM_0_AND_1 1 8 refl (lit≤ tt) (lit< tt) refl (4 * (2 + i) + m) i m q (omega arith) among low near

pub returns-clause-from_2 : goal.returns-clause-from_2
returns-clause-from_2 c i among m q low near =
    let codes = c.args.codes in
    c.numbers_of-2.ensures.bits i m q (omega arith) low near
    ∙ third_bit codes c.bits_in_thirds-bytes.result c.fits-codes.0
    (below_from_Fits w64 codes c.fits-codes.1) c.bits_in_thirds-bytes.ensures.bits
    FROM_2 2 0 refl (lit≤ tt) (lit< tt) refl (4 * i + m) i m q (omega arith) among low near
