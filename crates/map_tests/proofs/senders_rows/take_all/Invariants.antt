-- The inbox stays the one that it was.
use Rattle.std.proofs.Common.{◌≡◌}
use Rattle.map_tests.proofs.senders_rows.take_all.Given as goal

abbrev pub invariant-loop-turn : goal.invariant-loop-turn
invariant-loop-turn g l = l.inbox.origin ≡ l.fn.inbox.origin
