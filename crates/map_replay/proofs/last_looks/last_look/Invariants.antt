-- what is known begins with what was known, and with what the note tells
use mathlib.Core.List.{IsPrefix}
use Rattle.map_replay.proofs.last_looks.last_look.Given as goal

abbrev pub invariant-loop-turn : goal.invariant-loop-turn
invariant-loop-turn g l = record {
  seen : IsPrefix l.fn.reader.batches l.reader.batches;
  told : IsPrefix l.fn.note.batches l.reader.batches;
}
