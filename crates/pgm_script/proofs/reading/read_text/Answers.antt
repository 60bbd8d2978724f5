use Rattle.std.proofs.Common.{arith}
use Rattle.std.proofs.lemmas.Result.{err_from_is_err_and}
use Rattle.edge.proofs.ReaderLemmas.{passed-on}
use Rattle.pgm_script.specs.Texts.{origin_of, fault_of}
use Rattle.pgm_script.proofs.TextLemmas.{text-read, text-fails, text-wherever, fault-wherever}
use Rattle.pgm_script.proofs.reading.read_text.Goals as goal

pub returns-clause-reading : goal.returns-clause-reading
returns-clause-reading g c =
    text-read g.F.Shelf c.args.limit c.args.shelf.now c.read_all.new.shelf _
    (omega (arith, c.in_ok-read_all.ensures.within)) c.in_ok-read_all.ensures.reading

pub returns-in_err-read_all-clause-reading : goal.returns-in_err-read_all-clause-reading
returns-in_err-read_all-clause-reading g c =
    let fault = c.in_err-read_all.field-0.0 in
    passed-on g.F.Shelf origin_of _ _ _ _ _ _ (fault_of fault) c.from_residual.ensures.1
    (text-fails g.F.Shelf c.args.limit _ _ fault c.in_err-read_all.ensures.reading)

pub returns-clause-wherever : goal.returns-clause-wherever
returns-clause-wherever g c =
    let reads = text-read g.F.Shelf c.args.limit c.args.shelf.now c.read_all.new.shelf _
    (omega (arith, c.in_ok-read_all.ensures.within)) c.in_ok-read_all.ensures.reading in
    text-wherever c.args.limit _ _
    (g.F.Shelf.faults c.args.shelf.now) (g.F.Shelf.faults c.read_all.new.shelf) reads.read.text_is

pub returns-in_err-read_all-clause-wherever : goal.returns-in_err-read_all-clause-wherever
returns-in_err-read_all-clause-wherever g c =
    let p = err_from_is_err_and c.from_residual.result c.from_residual.ensures.1 in
    let fails = text-fails g.F.Shelf c.args.limit
    c.args.shelf.now c.read_all.new.shelf c.in_err-read_all.field-0.0 c.in_err-read_all.ensures.reading in
    rw (p.1, p.2) (fault-wherever c.args.limit _ _
    (g.F.Shelf.faults c.args.shelf.now) (g.F.Shelf.faults c.read_all.new.shelf) fails.fault fails.cause)
