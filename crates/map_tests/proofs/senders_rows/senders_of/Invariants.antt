-- The senders are in one of the two lists.
use Rattle.std.proofs.Common.{◌≡◌, ◌+◌, All, vec_len}
use Rattle.senders.specs.Senders.{Origin}
use Rattle.map_tests.proofs.senders_rows.senders_of.Given as goal

abbrev pub invariant-loop-job : goal.invariant-loop-job
invariant-loop-job l = record {
  own : (origin : Origin) → All (λ job. job.sender.origin ≡ origin) l.fn.jobs.items →
      All (λ job. job.sender.origin ≡ origin) l.jobs.items × All (λ sender. sender.origin ≡ origin) l.senders.items;
  count : vec_len l.senders + vec_len l.jobs ≡ vec_len l.fn.jobs;
}

abbrev pub decreases-loop-job : goal.decreases-loop-job
decreases-loop-job l = vec_len l.jobs
