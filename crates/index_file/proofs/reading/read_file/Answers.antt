-- The head, the levels and the byte behind them are read in turn; the fault of each is that of the file.
use Rattle.std.proofs.Common.{List, ℕ, [], ◌∷◌, ◌++◌, refl, sym, subst, ◌∙◌, arith}
use Rattle.std.specs.List.{flat_map}
use Rattle.std.proofs.lemmas.List.{append-nil}
use Rattle.edge.specs.Reading.{HasRead}
use Rattle.edge.specs.Readers.{ReadsOn}
use Rattle.edge.proofs.ReaderLemmas.{byte-piece, fails-in, passed-on, pieces-read}
use Rattle.index_file.specs.Spelling.{SavedIndex, head_bytes, level_bytes, runs_of, IsBounded, IsSpelling}
use Rattle.index_file.specs.Stops.{AreLevels, AreBeforeLevelCut, origin_of}
use Rattle.index_file.specs.Faults.{GivesIndex}
use Rattle.index_file.proofs.Heads.{head-fails, levels-go, levels-index, levels-stand}
use Rattle.index_file.proofs.Heads.{length-head, trailing-fails, index-of, index-read}
use Rattle.index_file.proofs.reading.read_file.Goals as goal

pub returns-in_err-head-clause-reading : goal.returns-in_err-head-clause-reading
returns-in_err-head-clause-reading g c =
    passed-on
    g.F.Shelf origin_of _ _ _ _ _ _ c.in_err-head.field-0.0 c.from_residual.ensures.1 c.in_err-head.ensures.reading

pub returns-in_err-levels-clause-reading : goal.returns-in_err-levels-clause-reading
returns-in_err-levels-clause-reading g c =
    let fault = c.in_err-levels.field-0.0 in
    let head = c.in_ok-head.head in
    let ensures = c.in_ok-head.ensures in
    let piece = head_bytes head.eps head.eps_rec head.levels in
    passed-on g.F.Shelf origin_of _ _ _ _ _ _ fault c.from_residual-in_err-levels.ensures.1
    (head-fails g.F.Shelf
    (AreLevels head.levels) (AreBeforeLevelCut head.levels) (AreLevels head.levels) 20 piece _ _ _ fault
    (sym (length-head head.eps head.eps_rec head.levels)) ensures.reading
    (levels-go head.eps head.eps_rec head.levels ensures.small ensures.small_rec ensures.few)
    (levels-stand head.eps head.eps_rec head.levels ensures.small ensures.small_rec ensures.few)
    (levels-index head.eps head.eps_rec head.levels ensures.small ensures.small_rec ensures.few)
    c.in_err-levels.ensures.reading)

pub returns-in-Some-clause-reading : goal.returns-in-Some-clause-reading
returns-in-Some-clause-reading g c =
    let head = c.in_ok-head.head in
    let levels = runs_of c.in_ok-levels.levels.items in
    let byte = c.in-Some.byte in
    let index : SavedIndex = record { eps = head.eps; eps_rec = head.eps_rec; levels = levels } in
    let bounded : IsBounded head.eps head.eps_rec levels =
    record {
      small = c.in_ok-head.ensures.small;
      small_rec = c.in_ok-head.ensures.small_rec;
      few =
          omega (arith, c.in_ok-levels.ensures.len, c.in_ok-head.ensures.few);
      each = c.in_ok-levels.ensures.fits;
    } in
    let front = head_bytes head.eps head.eps_rec head.levels ++ flat_map level_bytes levels in
    let first = pieces-read g.F.Shelf c.args.shelf.now c.read_head.new.shelf c.read_levels.new.shelf
    (head_bytes head.eps head.eps_rec head.levels)
    (flat_map level_bytes levels) c.in_ok-head.ensures.reading c.in_ok-levels.ensures.reading in
    let all = pieces-read g.F.Shelf _ c.read_levels.new.shelf c.next_byte.new.shelf front
    (byte ∷ []) first (byte-piece g.F.Shelf _ _ _ _ c.in-Some.is c.in_ok-after.ensures) in
    let spelled : IsSpelling index front =
    record { bounded = bounded; written = index-of index head.levels c.in_ok-levels.ensures.len } in
    fails-in g.F.Shelf _ _ (front ++ byte ∷ []) _ _ all
    (trailing-fails _ _ index head.levels byte bounded c.in_ok-levels.ensures.len all.read)
    (front, (index, spelled), refl)

pub returns-clause-reading : goal.returns-clause-reading
returns-clause-reading g c =
    let head = c.in_ok-head.head in
    let levels = runs_of c.in_ok-levels.levels.items in
    let old = c.args.shelf.now in
    let new = c.next_byte.new.shelf in
    let index : SavedIndex = record { eps = head.eps; eps_rec = head.eps_rec; levels = levels } in
    let bounded : IsBounded head.eps head.eps_rec levels =
    record {
      small = c.in_ok-head.ensures.small;
      small_rec = c.in_ok-head.ensures.small_rec;
      few =
          omega (arith, c.in_ok-levels.ensures.len, c.in_ok-head.ensures.few);
      each = c.in_ok-levels.ensures.fits;
    } in
    let front = head_bytes head.eps head.eps_rec head.levels ++ flat_map level_bytes levels in
    let first = pieces-read g.F.Shelf old c.read_head.new.shelf c.read_levels.new.shelf
    (head_bytes head.eps head.eps_rec head.levels)
    (flat_map level_bytes levels) c.in_ok-head.ensures.reading c.in_ok-levels.ensures.reading in
    let all = pieces-read g.F.Shelf old c.read_levels.new.shelf new front [] first
    (byte-piece g.F.Shelf _ _ _ _ c.in_default.is c.in_ok-after.ensures) in
    let R : List ℕ → Type 0 = λ piece. HasRead (g.F.Shelf.rest old) piece (g.F.Shelf.rest new) in
    let gives : ReadsOn g.F.Shelf (GivesIndex index) old new = record {
      files = all.files;
      quiet = all.quiet;
      read = record {
        saved = index-read _ _ index head.levels bounded c.in_ok-levels.ensures.len first.read
            (c.in_ok-after.ensures.read.ended c.in_default.is);
        taken = subst R (append-nil front ∙ index-of index head.levels c.in_ok-levels.ensures.len) all.read;
      };
    } in
    let P : SavedIndex → Type 0 = λ i. ReadsOn g.F.Shelf (GivesIndex i) old new in
    subst P (sym c.from_levels.ensures) gives

pub returns-clause-bounded : goal.returns-clause-bounded
returns-clause-bounded g c =
    let head = c.in_ok-head.head in
    let levels = runs_of c.in_ok-levels.levels.items in
    let bounded : IsBounded head.eps head.eps_rec levels =
    record {
      small = c.in_ok-head.ensures.small;
      small_rec = c.in_ok-head.ensures.small_rec;
      few =
          omega (arith, c.in_ok-levels.ensures.len, c.in_ok-head.ensures.few);
      each = c.in_ok-levels.ensures.fits;
    } in
    let P : SavedIndex → Type 0 = λ i. IsBounded i.eps i.eps_rec i.levels in
    subst P (sym c.from_levels.ensures) bounded
