-- The bytes that there were end before the buffer is full, or fill it.
use Rattle.std.proofs.Common.{◌≤◌, length, take, arith}
use Rattle.std.proofs.lemmas.List.{length-take-le}
use Rattle.edge.proofs.ReaderLemmas.{fails-in, filled-piece, same-piece}
use Rattle.index_file.proofs.Runs.{ends-of, all-of}
use Rattle.index_file.proofs.reading.fill_all.Goals as goal

pub returns-then-got-bytes-clause-reading : goal.returns-then-got-bytes-clause-reading
returns-then-got-bytes-clause-reading g c =
    let got = c.in_ok-got.got in
    let buf = c.fill.new.buf in
    let within : got ≤ length buf = omega (arith, c.in_ok-got.ensures.within, c.fill.auto.buf) in
    fails-in g.F.Shelf _ _ (take got buf) c.args.shelf.now c.fill.new.shelf
    (filled-piece g.F.Shelf _ _ got buf c.in_ok-got.ensures.reading)
    (ends-of _ c.args.at.now got buf (omega arith) (c.in_ok-got.ensures.reading.read.ended (omega arith)))
    (omega (arith, length-take-le got buf within))

pub returns-clause-reading : goal.returns-clause-reading
returns-clause-reading g c =
    let got = c.in_ok-got.got in
    let buf = c.fill.new.buf in
    same-piece g.F.Shelf c.args.shelf.now c.fill.new.shelf (take got buf) buf
    (all-of buf got (omega (arith, c.in_ok-got.ensures.within, c.fill.auto.buf)))
    (filled-piece g.F.Shelf _ _ got buf c.in_ok-got.ensures.reading)
