use Rattle.std.proofs.Common.{drop, map}
use Rattle.log_levels.specs.Maps.{map_after}
use Rattle.written.proofs.LoopLemmas.{HasWritten}
use Rattle.map_commands.specs.Replay.{end_line}
use Rattle.map_commands.proofs.told.write_answers.Given as goal

-- the answers to the questions before this place were written
abbrev pub invariant-loop-i : goal.invariant-loop-i
invariant-loop-i g l =
    HasWritten g.S.Sink l.fn.out l.out
    (map (end_line (map_after l.updates)) l.questions) (map (end_line (map_after l.updates)) (drop l.i l.questions))
