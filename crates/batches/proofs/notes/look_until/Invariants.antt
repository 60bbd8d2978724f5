-- who wasn't let in comes back unchanged
use Rattle.std.proofs.Common.{◌≡◌}
use Rattle.batches.proofs.notes.look_until.Given as goal

abbrev pub invariant-loop-turn : goal.invariant-loop-turn
invariant-loop-turn g l = record {
  same : l.reader ≡ l.fn.reader;
}
