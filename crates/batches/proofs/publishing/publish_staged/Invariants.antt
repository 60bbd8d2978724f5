-- a refused publication changes nothing
use Rattle.std.proofs.Common.{◌≡◌}
use Rattle.batches.proofs.publishing.publish_staged.Given as goal

abbrev pub invariant-loop-turn : goal.invariant-loop-turn
invariant-loop-turn g l = record {
  same : l.writer ≡ l.initial.writer;
}
