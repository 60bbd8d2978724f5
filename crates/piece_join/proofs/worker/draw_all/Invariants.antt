-- The pieces so far are those that the seat drew.
use Rattle.std.proofs.Common.{◌≡◌, ◌+◌, ◌-◌, length, All}
use Rattle.piece_join.specs.Worked.{numbers_of}
use Rattle.piece_join.proofs.DrawLemmas.{AreFew}
use Rattle.piece_join.proofs.worker.draw_all.Given as goal

abbrev pub invariant-loop-number : goal.invariant-loop-number
invariant-loop-number g l = record {
  own : l.seat.origin ≡ l.claims.origin;
  drawn : numbers_of l.pieces.items ≡ l.seat.drawn;
  same : All (λ piece. piece.of ≡ l.work) l.pieces.items;
  few : AreFew l.seat.drawn;
}

abbrev pub decreases-loop-number : goal.decreases-loop-number
decreases-loop-number g l = length l.work.cuts.now + 1 - length l.seat.drawn
