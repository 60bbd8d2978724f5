-- so many slots are made
use Rattle.std.proofs.Common.{◌≡◌, vec_len}
use Rattle.batches.proofs.notes.slots_for.Given as goal

abbrev pub invariant-loop-number : goal.invariant-loop-number
invariant-loop-number g l = record {
  made : vec_len l.slots ≡ l._number;
}
