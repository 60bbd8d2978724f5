-- what was taken is published, or a batch was refused
use Rattle.std.proofs.Common.{◌≡◌, ◌≤◌, ◌-◌, [], length, vec_len, OnOk}
use Rattle.map_replay.specs.SenderStates.{AreStarted, IsIntake}
use Rattle.map_replay.specs.Readings.{AreCut}
use Rattle.published.specs.Writers.{IsSameMap}
use Rattle.map_replay.proofs.sender_threads.publish_arriving.Given as goal

abbrev pub invariant-loop-rt : goal.invariant-loop-rt
invariant-loop-rt g l = record {
  same_map : IsSameMap l.initial.writer l.writer;
  origin : l.intake.inbox.origin ≡ l.initial.intake.inbox.origin;
  intake : IsIntake (length l.assignment.updates.now) l.intake;
  started : AreStarted l.initial.intake.inbox.origin l.assignment l.started.items;
  count : vec_len l.started ≡ vec_len l.initial.started;
  number : l.number ≤ length l.intake.arrivals.updates.items;
  staged : l.writer.batch ≡ [];
  published : OnOk l.published (AreCut l.plan.batch l.intake.arrivals.updates.items l.writer.history);
}

abbrev pub decreases-loop-rt : goal.decreases-loop-rt
decreases-loop-rt g l = length l.assignment.updates.now - length l.intake.arrivals.updates.items
