-- The pieces that are left are of the same work, and those that aren't stand at their places.
use Rattle.std.proofs.Common.{◌≡◌, ◌⊎◌, ℕ, ◌<◌, length, All, vec_len}
use Rattle.claims.specs.Claims.{times}
use Rattle.piece_join.specs.declared.work.Work.{Work}
use Rattle.piece_join.specs.Worked.{IsPlaced, numbers_of}
use Rattle.piece_join.proofs.pieces.place_all.Given as goal

abbrev pub invariant-loop-piece : goal.invariant-loop-piece
invariant-loop-piece l = record {
  len : vec_len l.parts ≡ vec_len l.fn.parts;
  inside : All (λ piece. length piece.of.cuts.now < vec_len l.fn.parts) l.pieces.items;
  same : (work : Work) →
      All (λ piece. piece.of ≡ work) l.fn.pieces.items → All (λ piece. piece.of ≡ work) l.pieces.items;
  kept : (work : Work) (i : ℕ) → All (λ piece. piece.of ≡ work) l.fn.pieces.items →
      IsPlaced work l.fn.parts.items i → IsPlaced work l.parts.items i;
  put : (work : Work) (i : ℕ) →
      All (λ piece. piece.of ≡ work) l.fn.pieces.items → 0 < times i (numbers_of l.fn.pieces.items) →
      (0 < times i (numbers_of l.pieces.items)) ⊎ IsPlaced work l.parts.items i;
}

abbrev pub decreases-loop-piece : goal.decreases-loop-piece
decreases-loop-piece l = vec_len l.pieces
