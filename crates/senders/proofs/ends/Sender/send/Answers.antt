-- A send keeps the rule.
use Rattle.std.proofs.Common.{ap, arith}
use Rattle.crossbeam_queue.specs.Passes.{ruled_capacity}
use Rattle.senders.proofs.Steps.{send_keeps}
use Rattle.senders.proofs.ends.Sender.send.Goals as goal

pub push_as-requires-clause-rule : goal.push_as-requires-clause-rule
push_as-requires-clause-rule g c =
    let inv = c.self.invariant in
    send_keeps _ _ _ _ _ (omega (arith, inv.3, ap ruled_capacity c.deref.ensures)) inv.1
