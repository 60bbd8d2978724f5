-- The bytes of a cut, by the three sides.
use Rattle.std.proofs.Common.{◌≡◌, ℕ, ◌+◌, List, [], ◌∷◌, length, refl, ap, ◌∙◌, arith}
use Rattle.edge.proofs.ReaderLemmas.{nothing-read, passed-on}
use Rattle.index_file.specs.Stops.{FollowsInCut, IsNoCut, origin_of}
use Rattle.index_file.proofs.Runs.{ends-early, fronts-of_buffer, follows-two}
use Rattle.index_file.proofs.Runs.{cut-last, cut-over, cut-read, length-under}
use Rattle.index_file.proofs.reading.read_cut.Goals as goal

pub returns-then-byte-eq0-clause-reading : goal.returns-then-byte-eq0-clause-reading
returns-then-byte-eq0-clause-reading g c = record {
  files = refl;
  quiet = refl;
  read = ([], ap (λ (b : ℕ). b ∷ []) c.if-byte-eq0.true ∙ cut-last, nothing-read _);
}

pub returns-then-byte-eq0-clause-at : goal.returns-then-byte-eq0-clause-at
returns-then-byte-eq0-clause-at g c = ap (λ (w : List ℕ). c.args.at.now + length w) cut-last

pub returns-then-byte-eq1-clause-reading : goal.returns-then-byte-eq1-clause-reading
returns-then-byte-eq1-clause-reading g c = record {
  files = refl;
  quiet = refl;
  read = ([], ap (λ (b : ℕ). b ∷ []) c.if-byte-eq1.true ∙ cut-over, nothing-read _);
}

pub returns-then-byte-eq1-clause-at : goal.returns-then-byte-eq1-clause-at
returns-then-byte-eq1-clause-at g c = ap (λ (w : List ℕ). c.args.at.now + length w) cut-over

pub returns-in_err-fill_all-clause-reading : goal.returns-in_err-fill_all-clause-reading
returns-in_err-fill_all-clause-reading g c =
    let fault = c.in_err-fill_all.field-0.0 in
    let buf = c.fill_all.new.bytes in
    let two : c.args.byte ≡ 2 = omega arith in
    passed-on g.F.Shelf origin_of _ _ _ _ _ _ fault c.from_residual.ensures.1
    (ends-early g.F.Shelf (FollowsInCut c.args.byte) IsNoCut IsNoCut c.args.at.now buf _ _ fault
    (fronts-of_buffer
    (FollowsInCut c.args.byte) buf (follows-two c.args.byte buf two (omega arith) c.in_err-fill_all.ensures.small))
    c.in_err-fill_all.ensures.reading)

pub returns-clause-reading : goal.returns-clause-reading
returns-clause-reading g c =
    let two : c.args.byte ≡ 2 = omega arith in
    let buf = c.fill_all.new.bytes in
    let read = c.in_ok-fill_all.ensures.reading in
    record {
      files = read.files;
      quiet = read.quiet;
      read = (
        buf,
        cut-read c.args.byte c.number_at.result c.number_at-2.result buf two
            (omega arith) c.number_at.ensures.bytes c.number_at-2.ensures.bytes,
        read.read,
      );
    }

pub returns-clause-at : goal.returns-clause-at
returns-clause-at g c = omega (arith, c.in_ok-fill_all.ensures.at, length-under c.number_at.result c.number_at-2.result)
