use Rattle.std.proofs.Common.{drop, length, map}
use Rattle.std.specs.List.{range_with_len}
use Rattle.written.proofs.LoopLemmas.{HasWritten}
use Rattle.map_commands.specs.Replay.{last_line}
use Rattle.map_commands.proofs.told.write_lasts.Given as goal

-- the last lines of the readers before this one were written
abbrev pub invariant-loop-i : goal.invariant-loop-i
invariant-loop-i g l =
    HasWritten g.S.Sink l.fn.out l.out (map (last_line (length l.updates)) (range_with_len 0 (length l.readings)))
    (map (last_line (length l.updates)) (drop l.i (range_with_len 0 (length l.readings))))
