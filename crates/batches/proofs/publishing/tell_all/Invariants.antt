-- telling changes nothing
use Rattle.std.proofs.Common.{◌≡◌}
use Rattle.batches.proofs.publishing.tell_all.Given as goal

abbrev pub invariant-loop-slot : goal.invariant-loop-slot
invariant-loop-slot g l = record {
  same : l.writer ≡ l.initial.writer;
}
