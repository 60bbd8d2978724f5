use Rattle.std.proofs.Common.{◌≡◌, length}
use Rattle.map_tests.proofs.log_levels_rows.put_all.Given as goal

abbrev pub invariant-loop-key : goal.invariant-loop-key
invariant-loop-key g l = length l.map.levels ≡ length l.fn.map.levels
