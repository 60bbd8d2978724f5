-- Two codes and two more.
use Rattle.std.proofs.Common.{lit<}
use Rattle.zorder.proofs.ThirdLemmas.{four_of_twos}
use Rattle.zorder.proofs.triples.byte_thirds.Goals as goal

pub returns-clause-from_0 : goal.returns-clause-from_0
returns-clause-from_0 c =
    four_of_twos 0 0 c.args.codes
    c.third_bytes.result.0 c.third_bytes-2.result.0 c.fits-codes.0 c.third_bytes.ensures.long.0 (lit< tt)
    (c.third_bytes.ensures.from_0 0 (lit< tt)) (c.third_bytes.ensures.from_0 1 (lit< tt))
    (c.third_bytes-2.ensures.from_0 0 (lit< tt)) (c.third_bytes-2.ensures.from_0 1 (lit< tt))

pub returns-clause-from_1 : goal.returns-clause-from_1
returns-clause-from_1 c =
    four_of_twos 1 2 c.args.codes
    c.third_bytes.result.0 c.third_bytes-2.result.0 c.fits-codes.0 c.third_bytes.ensures.long.0 (lit< tt)
    (c.third_bytes.ensures.from_1 0 (lit< tt)) (c.third_bytes.ensures.from_1 1 (lit< tt))
    (c.third_bytes-2.ensures.from_1 0 (lit< tt)) (c.third_bytes-2.ensures.from_1 1 (lit< tt))

pub returns-clause-from_2 : goal.returns-clause-from_2
returns-clause-from_2 c =
    four_of_twos 2 0 c.args.codes
    c.third_bytes.result.1 c.third_bytes-2.result.1 c.fits-codes.0 c.third_bytes.ensures.long.1 (lit< tt)
    (c.third_bytes.ensures.from_2 0 (lit< tt)) (c.third_bytes.ensures.from_2 1 (lit< tt))
    (c.third_bytes-2.ensures.from_2 0 (lit< tt)) (c.third_bytes-2.ensures.from_2 1 (lit< tt))
