-- The fault of a level, behind the levels so far, and the bytes that were taken.
use Rattle.std.proofs.Common.{ℕ, List, [], ◌++◌, refl, sym, subst, append_assoc, arith}
use Rattle.std.specs.List.{flat_map}
use Rattle.std.proofs.lemmas.List.Elements.{All-nil}
use Rattle.edge.proofs.ReaderLemmas.{no_memory-behind, passed-on, pieces-read}
use Rattle.index_file.specs.Spelling.{level_bytes, RunFits, LevelFits, runs_of}
use Rattle.index_file.specs.declared.saved.SavedRun.{SavedRun}
use Rattle.index_file.specs.Stops.{IsLevel, IsBeforeLevelCut, AreLevels, AreBeforeLevelCut, origin_of}
use Rattle.index_file.proofs.Stopping.{moves}
use Rattle.index_file.proofs.Lists.{list-goes}
use Rattle.index_file.proofs.reading.read_levels.Goals as goal

pub returns-then-at-gt-FURTHEST-clause-reading : goal.returns-then-at-gt-FURTHEST-clause-reading
returns-then-at-gt-FURTHEST-clause-reading g c =
    let levels = runs_of c.loop-done.levels.items in
    let so_far = c.loop-done.invariant in
    let none : List SavedRun = [] in
    let fit : LevelFits none = record { few = omega arith; each = All-nil RunFits } in
    let on = list-goes level_bytes LevelFits levels c.args.count none
    (level_bytes none) so_far.fits fit (omega (arith, so_far.len)) refl in
    no_memory-behind g.F.Shelf _ _ (flat_map level_bytes levels) _ _ so_far.read (level_bytes none ++ on.0, on.1)

pub returns-in_err-level-clause-reading : goal.returns-in_err-level-clause-reading
returns-in_err-level-clause-reading g c =
    let fault = c.in_err-level.field-0.0 in
    let levels = runs_of c.loop-done.levels.items in
    let so_far = c.loop-done.invariant in
    let count = c.args.count in
    let goes = λ (bytes : List ℕ) (level : IsLevel bytes). list-goes
    level_bytes LevelFits levels count level.0 bytes so_far.fits level.1 (omega (arith, so_far.len)) level.2 in
    passed-on g.F.Shelf origin_of _ _ _ _ _ _ fault c.from_residual.ensures.1
    (moves g.F.Shelf IsLevel IsBeforeLevelCut IsLevel (AreLevels count)
    (AreBeforeLevelCut count) c.args.at.now c.loop-done.at (flat_map level_bytes levels) _ _ _ fault
    so_far.at so_far.read goes (λ front before. (levels, front, omega (arith, so_far.len), so_far.fits, before, refl))
    goes c.in_err-level.ensures.reading)

pub returns-then-is_err-clause-reading : goal.returns-then-is_err-clause-reading
returns-then-is_err-clause-reading g c =
    let levels = runs_of c.loop-done.levels.items in
    let so_far = c.loop-done.invariant in
    let level = c.in_ok-level.level.items in
    let bytes = flat_map level_bytes levels in
    let on = list-goes level_bytes LevelFits levels c.args.count level
    (level_bytes level) so_far.fits c.in_ok-level.ensures.fits (omega (arith, so_far.len)) refl in
    no_memory-behind g.F.Shelf _ _ (bytes ++ level_bytes level) _ _
    (pieces-read g.F.Shelf _ c.loop-done.shelf c.read_level.new.shelf bytes
    (level_bytes level) so_far.read c.in_ok-level.ensures.reading)
    (on.0, subst (AreLevels c.args.count) (sym (append_assoc bytes (level_bytes level) on.0)) on.1)
