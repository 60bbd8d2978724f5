use Rattle.std.proofs.Common.{drop, map}
use Rattle.written.proofs.LoopLemmas.{HasWritten}
use Rattle.map_commands.specs.Mix.{from_line}
use Rattle.map_commands.proofs.told.write_senders.Given as goal

-- the lines of the updates before this one were written
abbrev pub invariant-loop-i : goal.invariant-loop-i
invariant-loop-i g l = HasWritten g.S.Sink l.fn.out l.out (map from_line l.numbers) (map from_line (drop l.i l.numbers))
