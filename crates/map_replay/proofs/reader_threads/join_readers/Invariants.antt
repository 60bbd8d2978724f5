-- each reader is done or still runs
use Rattle.std.proofs.Common.{◌≡◌, ◌+◌, ◌≤◌, All, vec_len, vec_capacity}
use Rattle.map_replay.specs.ReaderStates.{HasAsked, IsStartedOn}
use Rattle.map_replay.proofs.reader_threads.join_readers.Given as goal

abbrev pub invariant-loop-reader : goal.invariant-loop-reader
invariant-loop-reader g l = record {
  count : vec_len l.finished + vec_len l.started ≡ vec_len l.fn.started;
  kept : vec_len l.fn.started ≤ vec_capacity l.finished;
  running : All (IsStartedOn l.questions) l.started.items;
  asked : All (HasAsked l.questions) l.finished.items;
}

abbrev pub decreases-loop-reader : goal.decreases-loop-reader
decreases-loop-reader g l = goal.left-loop-reader g l
