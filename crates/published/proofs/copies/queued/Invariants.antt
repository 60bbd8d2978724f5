-- what is to be shown comes back unchanged
use Rattle.std.proofs.Common.{◌≡◌}
use Rattle.published.proofs.copies.queued.Given as goal

abbrev pub invariant-loop-turn : goal.invariant-loop-turn
invariant-loop-turn g l = record {
  version : l.version ≡ l.initial.version;
  shown : l.copies.desk.shown.value ≡ l.initial.copies.desk.shown.value;
}
