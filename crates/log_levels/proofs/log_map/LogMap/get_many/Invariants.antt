-- The values at the keys so far are written.
use Rattle.std.proofs.Common.{◌≡◌, ◌-◌, ◌≤◌, List, length, map, take}
use Rattle.log_levels.specs.declared.update.Update.{Update}
use Rattle.log_levels.specs.Maps.{map_after, value_at}
use Rattle.log_levels.specs.Shapes.{StandsFor}
use Rattle.log_levels.proofs.log_map.LogMap.get_many.Given as goal

abbrev pub invariant-loop-from : goal.invariant-loop-from
invariant-loop-from l = record {
  count : length l.values ≡ length l.keys;
  inside : l.from ≤ length l.keys;
  values : (updates : List Update) → StandsFor l.self updates →
      take l.from l.values ≡ map (value_at (map_after updates)) (take l.from l.keys);
}

abbrev pub decreases-loop-from : goal.decreases-loop-from
decreases-loop-from l = length l.keys - l.from
