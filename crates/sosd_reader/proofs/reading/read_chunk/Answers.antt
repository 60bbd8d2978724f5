use Rattle.std.proofs.Common.{◌≡◌, ◌*◌, ℕ, ◌/◌, length, take, arith, List, ap, ◌∙◌, subst}
use Rattle.std.proofs.Math.Nat.{mul-div_cancel_left}
use Rattle.std.proofs.lemmas.List.{length-take}
use Rattle.edge.proofs.ReaderLemmas.{filled-piece, passed-on}
use Rattle.sosd_reader.specs.NumberFiles.{Kind, number_width}
use Rattle.sosd_reader.specs.Reading.{GoesOn, StopsAs, origin_of}
use Rattle.sosd_reader.proofs.KindLemmas.{width-some}
use Rattle.sosd_reader.proofs.Widths.{whole-in, numbers-fit}
use Rattle.sosd_reader.proofs.Chunks.{whole-chunk}
use Rattle.sosd_reader.proofs.Following.{piece-fails}
use Rattle.sosd_reader.proofs.reading.read_chunk.Goals as goal

pub returns-in_err-take_in-clause-reading : goal.returns-in_err-take_in-clause-reading
returns-in_err-take_in-clause-reading g c =
    let kind = g.T.NumberList.kind c.args.numbers.now in
    let front = g.T.NumberList.list c.args.numbers.now in
    let w = number_width kind in
    let some = width-some kind c.bytes_before-before.ensures.kind in
    let piece = take c.in_ok-got.got c.fill.new.buf in
    let fault = c.in_err-take_in.field-0.0 in
    let room = c.args.room in
    let len = length-take c.in_ok-got.got c.fill.new.buf in
    let P : Kind → Type 0 =
    λ k. StopsAs k (length piece / number_width k) (g.T.NumberList.list c.reserve.new.self) piece fault in
    let Q : List ℕ → Type 0 = λ xs. StopsAs kind (length piece / w) xs piece fault in
    let stops =
    subst Q c.in_ok-reserve.ensures.list (subst P c.in_ok-reserve.ensures.kind c.in_err-take_in.ensures.fault) in
    passed-on g.F.Shelf (origin_of kind) _ _ _ _ _ _ fault c.from_residual-in_err-take_in.ensures.1
    (piece-fails g.F.Shelf kind (length piece / w) room (w * room) front piece _ _ fault
    (filled-piece g.F.Shelf _ _ c.in_ok-got.got c.fill.new.buf c.in_ok-got.ensures.reading)
    (numbers-fit w (length piece) room some (omega (arith, len)))
    (whole-in w (length piece) some) (omega (arith, len)) stops)

pub overflow_add-got : goal.overflow_add-got
overflow_add-got g c = omega (arith, c.bytes_before-before.ensures.small)

pub returns-clause-reading : goal.returns-clause-reading
returns-clause-reading g c =
    let kind = g.T.NumberList.kind c.args.numbers.now in
    let w = number_width kind in
    let read = filled-piece
    g.F.Shelf c.args.shelf.now c.fill.new.shelf c.in_ok-got.got c.fill.new.buf c.in_ok-got.ensures.reading in
    let piece = take c.in_ok-got.got c.fill.new.buf in
    let P : Kind → Type 0 = λ k. GoesOn
    (number_width k) (g.T.NumberList.list c.reserve.new.self) piece (g.T.NumberList.list c.take_in.new.self) in
    let Q : List ℕ → Type 0 = λ front. GoesOn w front piece (g.T.NumberList.list c.take_in.new.self) in
    record {
      files = read.files;
      quiet = read.quiet;
      read = whole-chunk w c.args.room _ piece _ _ _
          (subst Q c.in_ok-reserve.ensures.list (subst P c.in_ok-reserve.ensures.kind c.in_ok-take_in.ensures.numbers))
          read.read (omega (arith, length-take c.in_ok-got.got c.fill.new.buf));
    }

pub returns-clause-len : goal.returns-clause-len
returns-clause-len g c =
    let kind = g.T.NumberList.kind c.args.numbers.now in
    let w = number_width kind in
    let some = width-some kind c.bytes_before-before.ensures.kind in
    let piece = take c.in_ok-got.got c.fill.new.buf in
    let long : length piece ≡ w * c.args.room = omega (arith, length-take c.in_ok-got.got c.fill.new.buf) in
    let all : length piece / w ≡ c.args.room = ap (λ (n : ℕ). n / w) long ∙ mul-div_cancel_left c.args.room some in
    let same : length piece / number_width (g.T.NumberList.kind c.reserve.new.self)
    ≡ length piece / w = ap (λ (k : Kind). length piece / number_width k) c.in_ok-reserve.ensures.kind in
    let front = ap length c.in_ok-reserve.ensures.list in
    omega (arith, c.in_ok-take_in.ensures.len, same, all, front)
