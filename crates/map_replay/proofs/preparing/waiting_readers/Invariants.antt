-- each reader has room for its sightings, or waits for it
use Rattle.std.proofs.Common.{◌≡◌, ◌+◌, All, vec_len}
use Rattle.map_replay.specs.ReaderStates.{HasRoom}
use Rattle.map_replay.proofs.preparing.waiting_readers.Given as goal

abbrev pub invariant-loop-reader : goal.invariant-loop-reader
invariant-loop-reader g l = record {
  count : vec_len l.waiting + vec_len l.readers ≡ vec_len l.fn.readers;
  room : All (HasRoom l.questions) l.waiting.items;
  own : All (λ reader. reader.origin ≡ g.M.MapName.origin) l.readers.items;
}

abbrev pub decreases-loop-reader : goal.decreases-loop-reader
decreases-loop-reader g l = vec_len l.readers
