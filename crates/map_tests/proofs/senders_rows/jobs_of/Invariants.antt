-- The senders are in one of the two lists.
use Rattle.std.proofs.Common.{◌≡◌, ◌+◌, All, vec_len}
use Rattle.senders.specs.Senders.{Origin}
use Rattle.map_tests.proofs.senders_rows.jobs_of.Given as goal

abbrev pub invariant-loop-sender : goal.invariant-loop-sender
invariant-loop-sender l = record {
  own : (origin : Origin) → All (λ sender. sender.origin ≡ origin) l.fn.senders.items →
      All (λ sender. sender.origin ≡ origin) l.senders.items × All (λ job. job.sender.origin ≡ origin) l.jobs.items;
  count : vec_len l.jobs + vec_len l.senders ≡ vec_len l.fn.senders;
}

abbrev pub decreases-loop-sender : goal.decreases-loop-sender
decreases-loop-sender l = vec_len l.senders
