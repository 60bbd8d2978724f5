-- nothing is added before the word is as it was left
use Rattle.std.proofs.Common.{◌≡◌}
use Rattle.published.proofs.history.Prefix.publish.Given as goal

abbrev pub invariant-loop-turn : goal.invariant-loop-turn
invariant-loop-turn g l = record {
  same : l.self ≡ l.initial.self;
}
