-- The pieces are those of the index of the keys.
use Rattle.std.proofs.Common.{◌∙◌, ℕ, List, Vec, Global, map, ap, arith}
use Rattle.written.proofs.WritingLemmas.{broken_text}
use Rattle.commands.specs.Tasks.{bounds_of}
use Rattle.commands.proofs.SavedTexts.{IsSaved-of}
use Rattle.commands.proofs.save.write.Goals as goal

pub returns : goal.returns
returns g c =
    let items : Vec ℕ Global → List ℕ = λ piece. piece.items in (
      map items c.deref.result.now,
      IsSaved-of c.args.indexing.sorted.keys.items
          (bounds_of c.args.indexing.bounds) c.in_ok-index.index.levels _ c.args.indexing.sorted.never_falls
          (omega (arith, c.args.indexing.sorted.keys.ok.0, c.args.indexing.sorted.few))
          c.args.indexing.bounds.bounded c.args.indexing.bounds.bounded_above c.in_ok-pieces.ensures.count
          c.in_ok-index.ensures.levels (ap (map items) c.deref.ensures.value ∙ c.in_ok-pieces.ensures.pieces),
      c.in_ok-write_pieces.ensures,
    )

pub returns-in_err-write_pieces : goal.returns-in_err-write_pieces
returns-in_err-write_pieces g c =
    let items : Vec ℕ Global → List ℕ = λ piece. piece.items in
    broken_text _ c.from_residual-in_err-write_pieces.result c.from_residual-in_err-write_pieces.ensures.1
    (IsSaved-of c.args.indexing.sorted.keys.items (bounds_of c.args.indexing.bounds) c.in_ok-index.index.levels _
    c.args.indexing.sorted.never_falls (omega (arith, c.args.indexing.sorted.keys.ok.0, c.args.indexing.sorted.few))
    c.args.indexing.bounds.bounded c.args.indexing.bounds.bounded_above c.in_ok-pieces.ensures.count
    c.in_ok-index.ensures.levels (ap (map items) c.deref.ensures.value ∙ c.in_ok-pieces.ensures.pieces))
    c.in_err-write_pieces.ensures
