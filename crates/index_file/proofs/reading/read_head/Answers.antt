-- The faults of the head, and its bytes, one number after the other.
use Rattle.std.proofs.Common.{◌≡◌, ℕ, ◌++◌, subst, arith, length-append}
use Rattle.edge.specs.Readers.{ReadFails}
use Rattle.edge.proofs.ReaderLemmas.{fails-in, passed-on, pieces-read, same-piece}
use Rattle.index_file.specs.Spelling.{magic, number, head_bytes}
use Rattle.index_file.specs.Stops.{IsNumber, IsNoCut, StopsIn, TakesIn, origin_of}
use Rattle.index_file.proofs.Numbers.{length-number}
use Rattle.index_file.proofs.Heads.{head-fails, eps-goes, rec-goes, count-goes}
use Rattle.index_file.proofs.Heads.{none-stands, eps-fails, rec-fails, head-of}
use Rattle.index_file.proofs.reading.read_head.Goals as goal

pub returns-in_err-read_magic-clause-reading : goal.returns-in_err-read_magic-clause-reading
returns-in_err-read_magic-clause-reading g c =
    passed-on g.F.Shelf
    origin_of _ _ _ _ _ _ c.in_err-read_magic.field-0.0 c.from_residual.ensures.1 c.in_err-read_magic.ensures

pub returns-in_err-eps-clause-reading : goal.returns-in_err-eps-clause-reading
returns-in_err-eps-clause-reading g c =
    let fault = c.in_err-eps.field-0.0 in
    passed-on g.F.Shelf origin_of _ _ _ _ _ _ fault c.from_residual-in_err-eps.ensures.1
    (head-fails g.F.Shelf IsNumber IsNoCut IsNoCut 8 magic _ _ _ fault
    (omega arith) c.in_ok-read_magic.ensures eps-goes (none-stands magic) (λ bytes none. absurd none)
    c.in_err-eps.ensures.reading)

pub returns-then-eps-gt-MAX_EPSILON-clause-reading : goal.returns-then-eps-gt-MAX_EPSILON-clause-reading
returns-then-eps-gt-MAX_EPSILON-clause-reading g c =
    let eps = c.in_ok-eps.eps in
    let first = pieces-read g.F.Shelf c.args.shelf.now c.read_magic.new.shelf c.read_number.new.shelf magic
    (number eps) c.in_ok-read_magic.ensures c.in_ok-eps.ensures.reading in
    fails-in g.F.Shelf _ _ (magic ++ number eps) _ _ first (eps-fails _ _ eps (omega arith) (omega arith) first.read)
    (omega (arith, length-append magic (number eps), length-number eps))

pub returns-in_err-eps_rec-clause-reading : goal.returns-in_err-eps_rec-clause-reading
returns-in_err-eps_rec-clause-reading g c =
    let fault = c.in_err-eps_rec.field-0.0 in
    let eps = c.in_ok-eps.eps in
    let old = c.read_number.new.shelf in
    let new = c.read_number-2.new.shelf in
    let first = pieces-read g.F.Shelf c.args.shelf.now c.read_magic.new.shelf old magic
    (number eps) c.in_ok-read_magic.ensures c.in_ok-eps.ensures.reading in
    let At : ℕ → Type 0 =
    λ n. ReadFails g.F.Shelf (origin_of fault)
    (λ bytes. StopsIn IsNumber IsNoCut n bytes fault) (λ taken. TakesIn IsNoCut n taken fault) old new in
    passed-on g.F.Shelf origin_of _ _ _ _ _ _ fault c.from_residual-in_err-eps_rec.ensures.1
    (head-fails g.F.Shelf IsNumber IsNoCut IsNoCut 12
    (magic ++ number eps) _ _ _ fault (omega (arith, length-append magic (number eps), length-number eps)) first
    (rec-goes eps (omega arith)) (none-stands (magic ++ number eps))
    (λ bytes none. absurd none) (subst At c.in_ok-eps.ensures.at c.in_err-eps_rec.ensures.reading))

pub returns-then-eps_rec-gt-MAX_EPSILON-clause-reading : goal.returns-then-eps_rec-gt-MAX_EPSILON-clause-reading
returns-then-eps_rec-gt-MAX_EPSILON-clause-reading g c =
    let eps = c.in_ok-eps.eps in
    let eps_rec = c.in_ok-eps_rec.eps_rec in
    let first = pieces-read g.F.Shelf c.args.shelf.now c.read_magic.new.shelf c.read_number.new.shelf magic
    (number eps) c.in_ok-read_magic.ensures c.in_ok-eps.ensures.reading in
    let second = pieces-read g.F.Shelf _ c.read_number.new.shelf c.read_number-2.new.shelf
    (magic ++ number eps) (number eps_rec) first c.in_ok-eps_rec.ensures.reading in
    fails-in g.F.Shelf _ _ ((magic ++ number eps) ++ number eps_rec) _ _ second
    (rec-fails _ _ eps eps_rec (omega arith) (omega arith) (omega arith) second.read)
    (omega (
      arith,
      length-append (magic ++ number eps) (number eps_rec),
      length-append magic (number eps),
      length-number eps,
      length-number eps_rec,
    ))

pub returns-in_err-levels-clause-reading : goal.returns-in_err-levels-clause-reading
returns-in_err-levels-clause-reading g c =
    let fault = c.in_err-levels.field-0.0 in
    let eps = c.in_ok-eps.eps in
    let eps_rec = c.in_ok-eps_rec.eps_rec in
    let old = c.read_number-2.new.shelf in
    let new = c.read_number-3.new.shelf in
    let first = pieces-read g.F.Shelf c.args.shelf.now c.read_magic.new.shelf c.read_number.new.shelf magic
    (number eps) c.in_ok-read_magic.ensures c.in_ok-eps.ensures.reading in
    let second = pieces-read g.F.Shelf _ c.read_number.new.shelf old
    (magic ++ number eps) (number eps_rec) first c.in_ok-eps_rec.ensures.reading in
    let piece = (magic ++ number eps) ++ number eps_rec in
    let at : c.read_number-2.new.at ≡ 16 = omega (arith, c.in_ok-eps.ensures.at, c.in_ok-eps_rec.ensures.at) in
    let At : ℕ → Type 0 =
    λ n. ReadFails g.F.Shelf (origin_of fault)
    (λ bytes. StopsIn IsNumber IsNoCut n bytes fault) (λ taken. TakesIn IsNoCut n taken fault) old new in
    passed-on g.F.Shelf origin_of _ _ _ _ _ _ fault c.from_residual-in_err-levels.ensures.1
    (head-fails g.F.Shelf IsNumber IsNoCut IsNoCut 16 piece _ _ _ fault
    (omega (
      arith,
      length-append (magic ++ number eps) (number eps_rec),
      length-append magic (number eps),
      length-number eps,
      length-number eps_rec,
    )) second
    (count-goes eps eps_rec (omega arith) (omega arith))
    (none-stands piece) (λ bytes none. absurd none) (subst At at c.in_err-levels.ensures.reading))

pub returns-clause-reading : goal.returns-clause-reading
returns-clause-reading g c =
    let eps = c.in_ok-eps.eps in
    let eps_rec = c.in_ok-eps_rec.eps_rec in
    let levels = c.in_ok-levels.levels in
    let last = c.read_number-3.new.shelf in
    let first = pieces-read g.F.Shelf c.args.shelf.now c.read_magic.new.shelf c.read_number.new.shelf magic
    (number eps) c.in_ok-read_magic.ensures c.in_ok-eps.ensures.reading in
    let second = pieces-read g.F.Shelf _ c.read_number.new.shelf c.read_number-2.new.shelf
    (magic ++ number eps) (number eps_rec) first c.in_ok-eps_rec.ensures.reading in
    let piece = (magic ++ number eps) ++ number eps_rec in
    same-piece g.F.Shelf c.args.shelf.now last
    (piece ++ number levels) (head_bytes eps eps_rec levels) (head-of eps eps_rec levels)
    (pieces-read g.F.Shelf _ c.read_number-2.new.shelf last piece (number levels) second c.in_ok-levels.ensures.reading)
