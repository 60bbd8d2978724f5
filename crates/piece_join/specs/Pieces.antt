-- The pieces between cuts. No public clause cites them.
use Rattle.std.specs.Prelude.{ℕ, ◌+◌, ◌≤◌, List, [], ◌∷◌, ◌++◌, length, slice_index}
use Rattle.exact_cross.specs.declared.segment.Segment.{Segment}
use Rattle.exact_cross.specs.PointLists.{points_in}
use Rattle.exact_cross.specs.Segmentation.{IsSegmentation}
use Rattle.piece_join.specs.declared.work.Work.{Work}

-- where piece i of m points begins, counted from 0, and where all of them end
abbrev pub edge_of : ℕ → List ℕ → ℕ → ℕ
edge_of m cuts i = slice_index (0 ∷ cuts ++ m ∷ []) i

-- the segments of piece i by itself
abbrev pub IsPart : Work → ℕ → List Segment → Type 0
IsPart work i segments =
    IsSegmentation (points_in work.points) work.eps (edge_of (length work.points.xs.now) work.cuts.now i)
    (edge_of (length work.points.xs.now) work.cuts.now (i + 1)) segments

-- a piece: of which work, its number, and its segments
pub record Pieced : Type 0 where
  pub of : Work
  pub number : ℕ
  pub segments : List Segment

-- the piece is one of its work's, and the segments are those of the piece with its number
pub record IsPiece (piece : Pieced) : Type 0 where
  pub inside : piece.number ≤ length piece.of.cuts.now
  pub part : IsPart piece.of piece.number piece.segments
