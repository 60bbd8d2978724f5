-- each sender is done, or still runs
use Rattle.std.proofs.Common.{◌≡◌, ◌+◌, ◌≤◌, vec_len, vec_capacity}
use Rattle.senders.specs.Senders.{Origin}
use Rattle.map_replay.specs.SenderStates.{AreDone, AreStarted}
use Rattle.map_replay.proofs.sender_threads.join_senders.Given as goal

abbrev pub invariant-loop-one : goal.invariant-loop-one
invariant-loop-one g l = record {
  count : vec_len l.done + vec_len l.started ≡ l.assignment.dealing.senders.count;
  room : l.assignment.dealing.senders.count ≤ vec_capacity l.done;
  started : (origin : Origin) →
      AreStarted origin l.assignment l.fn.started.items → AreStarted origin l.assignment l.started.items;
  done : (origin : Origin) →
      AreStarted origin l.assignment l.fn.started.items → AreDone origin l.assignment l.done.items;
}

abbrev pub decreases-loop-one : goal.decreases-loop-one
decreases-loop-one g l = goal.left-loop-one g l
