-- What the sender's thread keeps is what its promise says.
use Rattle.std.proofs.Common.{subst}
use Rattle.map_replay.specs.declared.sender_states.SenderProgress.{SenderProgress}
use Rattle.map_replay.specs.SenderStates.{IsOnItsWay, Keeps}
use Rattle.map_replay.proofs.sender_threads.start_sender.Goals as goal

pub spawn_with-requires-clause-keeps : goal.spawn_with-requires-clause-keeps
spawn_with-requires-clause-keeps g c κs within = λ r keeps origin number is.
    keeps origin number
    (subst (λ (p : SenderProgress).
    IsOnItsWay origin c.args.assignment.dealing.senders.count c.args.assignment.updates.now number p)
    c.of.ensures is)

pub returns-in-Err : goal.returns-in-Err
returns-in-Err g c = λ origin is.
    let keeps : Keeps c.args.assignment.dealing.senders.count
    c.args.assignment.updates.now c.args.progress c.going.result = rw c.in-Err.ensures.err at c.going.ensures in
    keeps origin c.args.progress.place is
