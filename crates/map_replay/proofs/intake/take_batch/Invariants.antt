-- what was taken stands behind what was taken before, and there is room for one more
use Rattle.std.proofs.Common.{◌≡◌, ◌≤◌, ◌<◌, ◌+◌, take, length, vec_len}
use Rattle.map_replay.specs.SenderStates.{AreStarted, IsIntake}
use Rattle.map_replay.proofs.intake.take_batch.Given as goal

abbrev pub invariant-loop-turn : goal.invariant-loop-turn
invariant-loop-turn g l = record {
  own : l.intake.inbox.origin ≡ l.initial.intake.inbox.origin;
  intake : IsIntake (length l.assignment.updates.now) l.intake;
  left : length l.intake.arrivals.updates.items < length l.assignment.updates.now;
  kept : l.from ≤ length l.intake.arrivals.updates.items;
  few : length l.intake.arrivals.updates.items < l.from + l.size;
  begins : take l.from l.intake.arrivals.updates.items ≡ l.initial.intake.arrivals.updates.items;
  started : AreStarted l.initial.intake.inbox.origin l.assignment l.started.items;
  count : vec_len l.started ≡ vec_len l.initial.started;
}
