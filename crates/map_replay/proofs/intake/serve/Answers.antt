-- A sender that has no thread stays the one that it is.
use Rattle.std.proofs.Common.{subst}
use Rattle.map_replay.specs.declared.sender_states.StartedSender.{StartedSender}
use Rattle.map_replay.specs.SenderStates.{IsStarted}
use Rattle.map_replay.proofs.intake.serve.Goals as goal

pub returns-in-Served : goal.returns-in-Served
returns-in-Served g c = λ origin number is.
    c.send_next.ensures origin number
    (subst (λ (s : StartedSender). IsStarted origin c.args.assignment number s) c.in-Served.is is)
