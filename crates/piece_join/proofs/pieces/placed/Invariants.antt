-- The seats so far have ended, and the piece of each number that they drew stands at its place.
use Rattle.std.proofs.Common.{◌≡◌, ℕ, ◌+◌, ◌<◌, length, All, sum_by, vec_len}
use Rattle.claims.specs.Claims.{times, ended_count}
use Rattle.piece_join.specs.Worked.{IsWorked, IsPlaced}
use Rattle.piece_join.proofs.pieces.placed.Given as goal

abbrev pub invariant-loop-worked : goal.invariant-loop-worked
invariant-loop-worked l = record {
  parts : vec_len l.parts ≡ length l.work.cuts.now + 1;
  count : length l.seats.items + vec_len l.done ≡ l.fn.claims.workers;
  own : All (λ seat. seat.origin ≡ l.fn.claims.origin) l.seats.items;
  ended : ended_count l.seats.items ≡ length l.seats.items;
  each : All (IsWorked l.work l.fn.claims.origin) l.done.items;
  put : (i : ℕ) → 0 < sum_by (λ seat. times i seat.drawn) l.seats.items → IsPlaced l.work l.parts.items i;
}

abbrev pub decreases-loop-worked : goal.decreases-loop-worked
decreases-loop-worked l = vec_len l.done
