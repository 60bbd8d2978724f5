-- The fault of a run, behind the runs so far, and the bytes that were taken.
use Rattle.std.proofs.Common.{ℕ, List, ◌++◌, refl, sym, subst, append_assoc, arith}
use Rattle.std.specs.List.{flat_map}
use Rattle.edge.proofs.ReaderLemmas.{no_memory-behind, passed-on, pieces-read}
use Rattle.index_file.specs.Spelling.{run_bytes, RunFits}
use Rattle.index_file.specs.declared.fault.IndexFault.TheVariants.{NoMemory}
use Rattle.index_file.specs.Stops.{IsRun, IsBeforeCut, AreRuns, AreBeforeCut, origin_of}
use Rattle.index_file.proofs.Stopping.{moves}
use Rattle.index_file.proofs.Lists.{list-goes}
use Rattle.index_file.proofs.Levels.{no_run, no_run-fits}
use Rattle.index_file.proofs.reading.read_runs.Goals as goal

pub returns-in_err-reserve_exact-clause-reading : goal.returns-in_err-reserve_exact-clause-reading
returns-in_err-reserve_exact-clause-reading g c =
    let runs = c.loop-done.runs.items in
    let so_far = c.loop-done.invariant in
    let on = list-goes run_bytes RunFits runs c.args.count no_run
    (run_bytes no_run) so_far.fits no_run-fits (omega (arith, so_far.len)) refl in
    passed-on g.F.Shelf origin_of _ _ _ _ _ _ NoMemory c.from_residual.ensures.1
    (no_memory-behind g.F.Shelf _ _ (flat_map run_bytes runs) _ _ so_far.read (run_bytes no_run ++ on.0, on.1))

pub returns-in_err-run-clause-reading : goal.returns-in_err-run-clause-reading
returns-in_err-run-clause-reading g c =
    let fault = c.in_err-run.field-0.0 in
    let runs = c.loop-done.runs.items in
    let so_far = c.loop-done.invariant in
    let count = c.args.count in
    let goes = λ (bytes : List ℕ) (run : IsRun bytes).
    list-goes run_bytes RunFits runs count run.0 bytes so_far.fits run.1 (omega (arith, so_far.len)) run.2 in
    passed-on g.F.Shelf origin_of _ _ _ _ _ _ fault c.from_residual-in_err-run.ensures.1
    (moves g.F.Shelf IsRun IsBeforeCut IsRun
    (AreRuns count) (AreBeforeCut count) c.args.at.now c.loop-done.at (flat_map run_bytes runs) _ _ _ fault
    so_far.at so_far.read goes (λ front before. (runs, front, omega (arith, so_far.len), so_far.fits, before, refl))
    goes c.in_err-run.ensures.reading)

pub returns-then-is_err-clause-reading : goal.returns-then-is_err-clause-reading
returns-then-is_err-clause-reading g c =
    let runs = c.loop-done.runs.items in
    let so_far = c.loop-done.invariant in
    let run = c.in_ok-run.run' in
    let bytes = flat_map run_bytes runs in
    let on = list-goes run_bytes RunFits runs c.args.count run
    (run_bytes run) so_far.fits c.in_ok-run.ensures.fits (omega (arith, so_far.len)) refl in
    no_memory-behind g.F.Shelf _ _ (bytes ++ run_bytes run) _ _
    (pieces-read g.F.Shelf _ c.loop-done.shelf c.read_run.new.shelf bytes
    (run_bytes run) so_far.read c.in_ok-run.ensures.reading)
    (on.0, subst (AreRuns c.args.count) (sym (append_assoc bytes (run_bytes run) on.0)) on.1)
