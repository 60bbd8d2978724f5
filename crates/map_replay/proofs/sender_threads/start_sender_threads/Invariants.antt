-- each sender is started, or sent nothing yet
use Rattle.std.proofs.Common.{◌≡◌, ◌+◌, ◌≤◌, vec_len, vec_capacity}
use Rattle.senders.specs.Senders.{Origin, AreFresh, fresh_sender}
use Rattle.map_replay.specs.SenderStates.{AreAt, AreStarted}
use Rattle.map_replay.proofs.sender_threads.start_sender_threads.Given as goal

abbrev pub invariant-loop-sender : goal.invariant-loop-sender
invariant-loop-sender g l = record {
  count : vec_len l.started + vec_len l.senders ≡ l.assignment.dealing.senders.count;
  room : l.assignment.dealing.senders.count ≤ vec_capacity l.started;
  fresh : (origin : Origin) → AreFresh origin l.assignment.dealing.senders.count l.fn.senders.items →
      AreAt (λ place sender. sender ≡ fresh_sender origin place) l.senders.items;
  started : (origin : Origin) → AreFresh origin l.assignment.dealing.senders.count l.fn.senders.items →
      AreStarted origin l.assignment l.started.items;
}

abbrev pub decreases-loop-sender : goal.decreases-loop-sender
decreases-loop-sender g l = goal.left-loop-sender g l
