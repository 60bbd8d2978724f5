-- The values so far are written.
use Rattle.std.proofs.Common.{◌≡◌, length, map, take}
use Rattle.log_levels.specs.Kept.{found_by}
use Rattle.log_levels.proofs.many.write_values.Given as goal

abbrev pub invariant-loop-i : goal.invariant-loop-i
invariant-loop-i l =
    (length l.values ≡ length l.searches) × (take l.i l.values ≡ map found_by (take l.i l.searches))
