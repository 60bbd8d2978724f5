-- The first pairs of the range are written, and those from `from` on are left.
use Rattle.std.proofs.Common.{◌≡◌, ◌-◌, ◌≤◌, List, length}
use Rattle.log_levels.specs.declared.update.Update.{Update}
use Rattle.log_levels.specs.Maps.{map_after, pairs_between}
use Rattle.log_levels.specs.Shapes.{StandsFor}
use Rattle.kuldebiq.proofs.Ranges.{IsFilled}
use Rattle.kuldebiq.proofs.range_calls.write_range.Given as goal

abbrev pub invariant-loop-count : goal.invariant-loop-count
invariant-loop-count l =
    (length l.room ≡ length l.fn.room) × (l.count ≤ length l.room)
    × ((updates : List Update) → StandsFor l.held updates → IsFilled (pairs_between (map_after updates) l.fn.low l.high)
    (pairs_between (map_after updates) l.from l.high) l.room l.fn.room l.count)

abbrev pub decreases-loop-count : goal.decreases-loop-count
decreases-loop-count l = length l.room - l.count
