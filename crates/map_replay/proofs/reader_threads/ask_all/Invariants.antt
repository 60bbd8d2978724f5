-- the questions before this one were asked, and there is room for the others
use Rattle.std.proofs.Common.{◌≡◌, ◌≤◌, length, take, vec_len, vec_capacity}
use Rattle.map_replay.specs.Watching.{WasAsked}
use Rattle.map_replay.proofs.reader_threads.ask_all.Given as goal

abbrev pub invariant-loop-turn : goal.invariant-loop-turn
invariant-loop-turn g l = record {
  own : l.reader.origin ≡ g.M.MapName.origin;
  count : vec_len l.sightings ≡ l.turn;
  room : length l.questions ≤ vec_capacity l.sightings;
  asked : WasAsked l.reader.batches (take l.turn l.questions) l.sightings.items;
}
