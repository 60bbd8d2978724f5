-- A take keeps the rule.
use Rattle.std.proofs.Common.{ap}
use Rattle.senders.specs.declared.views.View.{View}
use Rattle.senders.proofs.Steps.{takes_in_order, awaits}
use Rattle.senders.proofs.ends.Inbox.take.Goals as goal

pub pop_as-requires-clause-rule : goal.pop_as-requires-clause-rule
pop_as-requires-clause-rule g c =
    let takes = ap (λ (v : View). v.takes) c.self.invariant.1 in
    (takes_in_order _ _ takes, awaits _ _ takes)
