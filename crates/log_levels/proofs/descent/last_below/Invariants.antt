use Rattle.std.proofs.Common.{take}
use Rattle.map_level.specs.Levels.{last_at}
use Rattle.log_levels.specs.Kept.{IsGreatestBelow}
use Rattle.log_levels.proofs.descent.last_below.Given as goal

abbrev pub invariant-loop-entry : goal.invariant-loop-entry
invariant-loop-entry l = IsGreatestBelow (last_at (take l.entry-index l.entries)) l.end l.last
