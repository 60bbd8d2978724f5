-- it stays such a sender
use Rattle.map_replay.specs.SenderStates.{Keeps}
use Rattle.map_replay.proofs.sending.send_all.Given as goal

abbrev pub invariant-loop-turn : goal.invariant-loop-turn
invariant-loop-turn g l = record {
  keeps : Keeps l.assignment.dealing.senders.count l.assignment.updates.now l.fn.progress l.progress;
}
