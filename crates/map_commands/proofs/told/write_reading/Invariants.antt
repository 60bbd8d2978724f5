use Rattle.std.proofs.Common.{drop}
use Rattle.written.proofs.LoopLemmas.{HasWritten}
use Rattle.map_commands.specs.Replay.{reader_lines}
use Rattle.map_commands.proofs.told.write_reading.Given as goal

-- the lines of the questions before this place were written
abbrev pub invariant-loop-i : goal.invariant-loop-i
invariant-loop-i g l = HasWritten g.S.Sink l.fn.out l.out (reader_lines l.updates l.reader l.questions l.sightings)
    (reader_lines l.updates l.reader (drop l.i l.questions) (drop l.i l.sightings))
