-- A level is its number of runs, and its runs.
use Rattle.std.proofs.Common.{[], ◌++◌, refl, arith}
use Rattle.std.specs.List.{flat_map}
use Rattle.edge.proofs.ReaderLemmas.{no_piece-read, passed-on, pieces-read, same-piece}
use Rattle.index_file.specs.Spelling.{number, run_bytes, level_bytes}
use Rattle.index_file.specs.Stops.{IsNumber, IsNoCut, AreRuns, AreBeforeCut, IsLevel, IsBeforeLevelCut, origin_of}
use Rattle.index_file.proofs.Stopping.{moves}
use Rattle.index_file.proofs.Numbers.{length-number}
use Rattle.index_file.proofs.Levels.{level-of, length-level, number-goes, runs-go}
use Rattle.index_file.proofs.reading.read_level.Goals as goal

pub returns-in_err-count-clause-reading : goal.returns-in_err-count-clause-reading
returns-in_err-count-clause-reading g c =
    let fault = c.in_err-count.field-0.0 in
    let at = c.args.at.now in
    passed-on g.F.Shelf origin_of _ _ _ _ _ _ fault c.from_residual.ensures.1
    (moves g.F.Shelf IsNumber IsNoCut IsNoCut IsLevel IsBeforeLevelCut at at [] _ _ _ fault
    (omega arith) (no_piece-read g.F.Shelf _) number-goes
    (λ front none. absurd none) (λ bytes none. absurd none) c.in_err-count.ensures.reading)

pub returns-in_err-runs-clause-reading : goal.returns-in_err-runs-clause-reading
returns-in_err-runs-clause-reading g c =
    let fault = c.in_err-runs.field-0.0 in
    let count = c.in_ok-count.count in
    let first = c.in_ok-count.ensures in
    passed-on g.F.Shelf origin_of _ _ _ _ _ _ fault c.from_residual-in_err-runs.ensures.1
    (moves g.F.Shelf (AreRuns count) (AreBeforeCut count)
    (AreRuns count) IsLevel IsBeforeLevelCut c.args.at.now c.read_number.new.at (number count) _ _ _ fault
    (omega (arith, first.at, length-number count)) first.reading
    (runs-go count (omega arith)) (λ front before. (count, front, omega arith, before, refl))
    (runs-go count (omega arith)) c.in_err-runs.ensures.reading)

pub returns-clause-reading : goal.returns-clause-reading
returns-clause-reading g c =
    let count = c.in_ok-count.count in
    let runs = c.in_ok-runs.runs.items in
    let bytes = flat_map run_bytes runs in
    same-piece g.F.Shelf c.args.shelf.now c.read_runs.new.shelf
    (number count ++ bytes) (level_bytes runs) (level-of count runs c.in_ok-runs.ensures.len)
    (pieces-read g.F.Shelf _ c.read_number.new.shelf _
    (number count) bytes c.in_ok-count.ensures.reading c.in_ok-runs.ensures.reading)

pub returns-clause-at : goal.returns-clause-at
returns-clause-at g c =
    omega (
      arith,
      length-level c.in_ok-count.count c.in_ok-runs.runs.items c.in_ok-runs.ensures.len,
      c.in_ok-count.ensures.at,
      c.in_ok-runs.ensures.at,
    )
