-- Making a sender keeps the rule.
use Rattle.std.proofs.Common.{ap, arith}
use Rattle.senders.specs.declared.views.View.{View}
use Rattle.senders.proofs.Steps.{makes_one}
use Rattle.senders.proofs.ends.make_senders.Goals as goal

pub another-theirs-requires-clause-rule : goal.another-theirs-requires-clause-rule
another-theirs-requires-clause-rule c =
    let inv = c.loop-number.invariant in
    makes_one _ _ (ap (λ (v : View). v.takes) inv.made)
    (omega (arith, ap (λ (v : View). v.made) inv.made, ap (λ (v : View). v.senders) inv.made))
