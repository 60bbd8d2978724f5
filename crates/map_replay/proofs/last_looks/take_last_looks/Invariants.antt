-- each reader saw all, or still has its last look to take
use Rattle.std.proofs.Common.{◌≡◌, ◌+◌, ◌≤◌, List, All, vec_len, vec_capacity}
use Rattle.map_replay.specs.declared.question.Question.{Question}
use Rattle.map_replay.specs.ReaderStates.{HasAsked, HasSeen}
use Rattle.map_replay.proofs.last_looks.take_last_looks.Given as goal

abbrev pub invariant-loop-next : goal.invariant-loop-next
invariant-loop-next g l = record {
  same : l.writer ≡ l.initial.writer;
  count : vec_len l.readings + vec_len l.finished ≡ vec_len l.fn.finished;
  room : vec_len l.fn.finished ≤ vec_capacity l.readings;
  left : (questions : List Question) →
      All (HasAsked questions) l.fn.finished.items → All (HasAsked questions) l.finished.items;
  each : (questions : List Question) →
      All (HasAsked questions) l.fn.finished.items → All (HasSeen l.fn.writer.history questions) l.readings.items;
}

abbrev pub decreases-loop-next : goal.decreases-loop-next
decreases-loop-next g l = goal.left-loop-next g l
