-- A run is its thirteen bytes, and the rest of its cut.
use Rattle.std.proofs.Common.{◌++◌, get_or, arith}
use Rattle.edge.proofs.ReaderLemmas.{fails-in, passed-on, pieces-read, same-piece}
use Rattle.index_file.specs.Stops.{FollowsInCut, IsNoCut, IsRun, IsBeforeCut, origin_of}
use Rattle.index_file.proofs.Stopping.{moves}
use Rattle.index_file.proofs.Runs.{ends-early, run-fronts, run-side, run-goes, run-read, pair-of, length-run}
use Rattle.index_file.proofs.reading.read_run.Goals as goal

pub returns-in_err-fill_all-clause-reading : goal.returns-in_err-fill_all-clause-reading
returns-in_err-fill_all-clause-reading g c =
    let fault = c.in_err-fill_all.field-0.0 in
    let buf = c.fill_all.new.bytes in
    passed-on g.F.Shelf origin_of _ _ _ _ _ _ fault c.from_residual.ensures.1
    (ends-early g.F.Shelf IsRun IsBeforeCut IsRun c.args.at.now buf _ _ fault
    (run-fronts buf (omega arith) c.in_err-fill_all.ensures.small) c.in_err-fill_all.ensures.reading)

pub returns-then-byte-gt2-clause-reading : goal.returns-then-byte-gt2-clause-reading
returns-then-byte-gt2-clause-reading g c =
    let buf = c.fill_all.new.bytes in
    let read = c.in_ok-fill_all.ensures in
    fails-in g.F.Shelf _ _ buf c.args.shelf.now c.fill_all.new.shelf read.reading
    (run-side _ _ c.args.at.now _ buf
    (omega arith) read.small read.reading.read (omega (arith, read.at)) c.if-byte-gt2.true)
    (omega (arith, read.at))

pub returns-in_err-cut-clause-reading : goal.returns-in_err-cut-clause-reading
returns-in_err-cut-clause-reading g c =
    let fault = c.in_err-cut.field-0.0 in
    let buf = c.fill_all.new.bytes in
    let read = c.in_ok-fill_all.ensures in
    passed-on g.F.Shelf origin_of _ _ _ _ _ _ fault c.from_residual-in_err-cut.ensures.1
    (moves g.F.Shelf (FollowsInCut (get_or buf 12 0))
    IsNoCut IsNoCut IsRun IsBeforeCut c.args.at.now c.fill_all.new.at buf _ _ _ fault
    (omega (arith, read.at)) read.reading
    (run-goes buf (omega arith) read.small) (λ front none. absurd none) (λ bytes none. absurd none)
    c.in_err-cut.ensures.reading)

pub returns-clause-reading : goal.returns-clause-reading
returns-clause-reading g c =
    let buf = c.fill_all.new.bytes in
    let read = c.in_ok-cut.ensures.reading in
    let start = c.number_at.result in
    let a = c.number_at-2.result in
    let b = c.number_at-3.result in
    let more = read.read in
    let pair = pair-of buf start a b
    (omega arith) c.number_at.ensures.bytes c.number_at-2.ensures.bytes c.number_at-3.ensures.bytes in
    same-piece g.F.Shelf c.args.shelf.now c.read_cut.new.shelf
    (buf ++ more.0) _ (run-read buf more.0 start a b c.in_ok-cut.cut (omega arith) pair more.1)
    (pieces-read
    g.F.Shelf c.args.shelf.now c.fill_all.new.shelf c.read_cut.new.shelf buf more.0 c.in_ok-fill_all.ensures.reading
    (record { files = read.files; quiet = read.quiet; read = more.2 }))

pub returns-clause-at : goal.returns-clause-at
returns-clause-at g c =
    omega (
      arith,
      length-run c.number_at.result c.number_at-2.result c.number_at-3.result c.in_ok-cut.cut,
      c.in_ok-cut.ensures.at,
      c.in_ok-fill_all.ensures.at,
    )
