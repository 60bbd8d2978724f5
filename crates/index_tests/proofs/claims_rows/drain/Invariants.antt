-- The seat stays one of these claims.
use Rattle.std.proofs.Common.{◌≡◌, ◌≤◌}
use Rattle.index_tests.proofs.claims_rows.drain.Given as goal

abbrev pub invariant-loop-turn : goal.invariant-loop-turn
invariant-loop-turn l = (l.seat.origin ≡ l.claims.origin) × (l.count ≤ l.turn)
