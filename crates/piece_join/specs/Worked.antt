-- What the workers leave. No public clause cites it.
use Rattle.std.specs.Prelude.{◌≡◌, ℕ, ◌+◌, ◌<◌, true, List, length, map, All, Vec, IfOk, slice_index_or}
use Rattle.std.specs.declared.alloc.Global.{Global}
use Rattle.exact_cross.specs.declared.segment.Segment.{Segment}
use Rattle.claims.specs.Claims.{Origin}
use Rattle.piece_join.specs.declared.work.Work.{Work}
use Rattle.piece_join.specs.declared.worker.Worked.{Worked}
use Rattle.piece_join.specs.Pieces.{Pieced, IsPart}

-- the numbers of pieces
abbrev pub numbers_of : List Pieced → List ℕ
numbers_of pieces = map (λ piece. piece.number) pieces

-- a worker's seat of these claims and, unless memory ran out,
-- the pieces of all numbers that it drew, up to the first None
pub record IsWorked (work : Work) (origin : Origin) (worked : Worked) : Type 0 where
  pub own : worked.seat.origin ≡ origin
  pub ended : IfOk worked.pieces (λ pieces. worked.seat.ended ≡ true)
  pub drawn : IfOk worked.pieces (λ pieces. numbers_of pieces.items ≡ worked.seat.drawn)
  pub same : IfOk worked.pieces (λ pieces. All (λ piece. piece.of ≡ work) pieces.items)

-- the segments of piece i stand at place i
abbrev pub IsPlaced : Work → List (Vec Segment Global) → ℕ → Type 0
IsPlaced work parts i = (d : Vec Segment Global) → IsPart work i (slice_index_or parts i d).items

-- and so of each piece
pub record ArePlaced (work : Work) (parts : List (Vec Segment Global)) : Type 0 where
  pub count : length parts ≡ length work.cuts.now + 1
  pub each : (i : ℕ) → i < length parts → IsPlaced work parts i
