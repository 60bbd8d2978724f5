-- each sender stays the one that it was
use Rattle.std.proofs.Common.{◌≡◌, vec_len}
use Rattle.senders.specs.Senders.{Origin}
use Rattle.map_replay.specs.SenderStates.{AreStarted}
use Rattle.map_replay.proofs.intake.serve_all.Given as goal

abbrev pub invariant-loop-place : goal.invariant-loop-place
invariant-loop-place g l = record {
  started : (origin : Origin) →
      AreStarted origin l.assignment l.initial.started.items → AreStarted origin l.assignment l.started.items;
  count : vec_len l.started ≡ vec_len l.initial.started;
}
