-- Giving up a number keeps the rule.
use Rattle.std.proofs.Common.{ap, arith}
use Rattle.senders.specs.declared.views.View.{View}
use Rattle.senders.proofs.Steps.{gives_up}
use Rattle.senders.proofs.ends.give_up_numbers.Goals as goal

pub another-requires-clause-rule : goal.another-requires-clause-rule
another-requires-clause-rule c =
    let inv = c.loop-number.invariant in
    gives_up _ _ (ap (λ (v : View). v.takes) inv.first) (omega (arith, inv.left, ap (λ (v : View). v.made) inv.first))
