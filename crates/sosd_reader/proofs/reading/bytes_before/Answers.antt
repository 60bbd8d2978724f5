use Rattle.std.proofs.Common.{arith}
use Rattle.sosd_reader.proofs.KindLemmas.{width-most, product-most}
use Rattle.sosd_reader.proofs.reading.bytes_before.Goals as goal

pub returns-clause-small : goal.returns-clause-small
returns-clause-small g c =
    let most = width-most (g.T.NumberList.kind c.args.numbers.now) c.width.ensures.kind in
    omega (arith, product-most c.width.result c.len.result (omega (arith, most, c.width.ensures.width)))
