-- each reader is started or still has to start
use Rattle.std.proofs.Common.{◌≡◌, ◌+◌, ◌≤◌, All, length, vec_len, vec_capacity}
use Rattle.map_replay.specs.ReaderStates.{HasRoom, IsStartedOn}
use Rattle.map_replay.proofs.reader_threads.start_readers.Given as goal

abbrev pub invariant-loop-reader : goal.invariant-loop-reader
invariant-loop-reader g l = record {
  count : vec_len l.started + vec_len l.waiting ≡ vec_len l.fn.waiting;
  kept : vec_len l.fn.waiting ≤ vec_capacity l.started;
  room : All (HasRoom (length l.questions)) l.waiting.items;
  asked : All (IsStartedOn l.questions) l.started.items;
}

abbrev pub decreases-loop-reader : goal.decreases-loop-reader
decreases-loop-reader g l = goal.left-loop-reader g l
