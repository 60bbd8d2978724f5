-- The senders that come back are of the inbox that comes back.
use Rattle.std.proofs.Common.{sym, ◌∙◌}
use Rattle.map_tests.proofs.senders_rows.beside_each_other.Goals as goal

pub close-requires-clause-own : goal.close-requires-clause-own
close-requires-clause-own g c =
    let origin = c.in_ok-inbox.inbox.origin in
    let jobs = c.in_ok-jobs.ensures.own origin c.in_ok-inbox.ensures.own in
    let second = rw c.in_ok-jobs-2.was at c.join-inbox.ensures.second in
    let back = second.0 origin jobs in
    λ k d inside. c.in_ok-senders.ensures.own origin back k d inside ∙ sym c.join-inbox.ensures.first
