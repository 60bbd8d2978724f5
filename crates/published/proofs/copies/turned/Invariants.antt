-- what waits to be shown still waits, and what is shown still is
use Rattle.std.proofs.Common.{◌≡◌, drop}
use Rattle.published.proofs.copies.turned.Given as goal

abbrev pub invariant-loop-turn : goal.invariant-loop-turn
invariant-loop-turn g l = record {
  queue : drop l.copies.behind l.copies.log.items ≡ drop l.initial.copies.behind l.initial.copies.log.items;
  shown : l.copies.desk.shown.value ≡ l.initial.copies.desk.shown.value;
}
