-- The first byte that differs, or the end.
use Rattle.std.proofs.Common.{◌≡◌, ◌≤◌, length, take, arith}
use Rattle.std.proofs.lemmas.List.{length-take-le}
use Rattle.edge.proofs.ReaderLemmas.{fails-in, filled-piece, same-piece}
use Rattle.index_file.specs.Spelling.{magic}
use Rattle.index_file.proofs.Heads.{magic-short, magic-fails, magic-read}
use Rattle.index_file.proofs.reading.read_magic.Goals as goal

pub returns-then-bytes-at : goal.returns-then-bytes-at
returns-then-bytes-at g c =
    let got = c.in_ok-got.got in
    let buf = c.fill.new.buf in
    let long : length buf ≡ 8 = omega (arith, c.fill.auto.buf) in
    let within : got ≤ length buf = omega (arith, c.in_ok-got.ensures.within) in
    let piece = filled-piece g.F.Shelf c.args.shelf.now c.fill.new.shelf got buf c.in_ok-got.ensures.reading in
    fails-in g.F.Shelf _ _ (take got buf) c.args.shelf.now c.fill.new.shelf piece
    (magic-fails _ _ c.loop-at.at got buf long
    (omega arith) c.loop-at-test.true c.loop-at.invariant c.if-bytes-at.true piece.read)
    (omega (arith, length-take-le got buf within))

pub returns-then-got-lt8 : goal.returns-then-got-lt8
returns-then-got-lt8 g c =
    let got = c.in_ok-got.got in
    let buf = c.fill.new.buf in
    let long : length buf ≡ 8 = omega (arith, c.fill.auto.buf) in
    let within : got ≤ length buf = omega (arith, c.in_ok-got.ensures.within) in
    fails-in g.F.Shelf _ _ (take got buf) c.args.shelf.now c.fill.new.shelf
    (filled-piece g.F.Shelf _ _ got buf c.in_ok-got.ensures.reading)
    (magic-short _ got buf long c.if-got-lt8.true
    (λ k less. c.loop-at.invariant k (omega arith)) (c.in_ok-got.ensures.reading.read.ended (omega arith)))
    (omega (arith, length-take-le got buf within))

pub returns : goal.returns
returns g c =
    let got = c.in_ok-got.got in
    let buf = c.fill.new.buf in
    same-piece g.F.Shelf c.args.shelf.now c.fill.new.shelf (take got buf) magic
    (magic-read got buf (omega (arith, c.fill.auto.buf))
    (omega (arith, c.in_ok-got.ensures.within)) (λ k less. c.loop-at.invariant k (omega arith)))
    (filled-piece g.F.Shelf _ _ got buf c.in_ok-got.ensures.reading)
