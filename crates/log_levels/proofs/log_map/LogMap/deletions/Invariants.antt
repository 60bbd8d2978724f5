use Rattle.std.proofs.Common.{◌≡◌, ◌-◌, ◌^◌, ◌≤◌, ◌++◌, List, map}
use Rattle.log_levels.specs.declared.update.Update.{Update}
use Rattle.log_levels.specs.Accepted.{del_entry, keys_between}
use Rattle.log_levels.specs.Maps.{map_after}
use Rattle.log_levels.specs.Shapes.{StandsFor}
use Rattle.log_levels.specs.Kept.{IsLeft}
use Rattle.log_levels.proofs.log_map.LogMap.deletions.Given as goal

abbrev pub invariant-loop-key : goal.invariant-loop-key
invariant-loop-key l = record {
  at : IsLeft l.self l.walk l.from;
  few : l.from ≤ 2 ^ 64;
  list : (updates : List Update) → StandsFor l.self updates →
      map del_entry (keys_between (map_after updates) l.low l.high) ≡ l.deletions.items
      ++ map del_entry (keys_between (map_after updates) l.from l.high);
}

abbrev pub decreases-loop-key : goal.decreases-loop-key
decreases-loop-key l = 2 ^ 64 - l.from
