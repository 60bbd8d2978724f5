use Rattle.std.proofs.Common.{◌≡◌, ◌-◌, ◌≤◌, ◌++◌, List, length, take}
use Rattle.log_levels.specs.declared.update.Update.{Update}
use Rattle.log_levels.specs.Shapes.{StandsFor}
use Rattle.log_levels.proofs.log_map.LogMap.with_updates.Given as goal

abbrev pub invariant-loop-done : goal.invariant-loop-done
invariant-loop-done g l = record {
  within : l.done ≤ length l.updates;
  levels : length l.map.levels ≡ length l.self.levels;
  stands : (before : List Update) → StandsFor l.self before → StandsFor l.map (before ++ take l.done l.updates);
}

abbrev pub decreases-loop-done : goal.decreases-loop-done
decreases-loop-done g l = length l.updates - l.done
