-- The sender stays of its inbox.
use Rattle.std.proofs.Common.{◌≡◌}
use Rattle.map_tests.proofs.senders_rows.send_each.Given as goal

abbrev pub invariant-loop-turn : goal.invariant-loop-turn
invariant-loop-turn g l = l.sender.origin ≡ l.fn.job.sender.origin
