use Rattle.std.proofs.Common.{◌-◌, ◌^◌, ◌≤◌, List, length}
use Rattle.log_levels.specs.declared.update.Update.{Update}
use Rattle.log_levels.specs.Maps.{map_after, pairs_between}
use Rattle.log_levels.specs.Shapes.{StandsFor}
use Rattle.log_levels.specs.Kept.{IsLeft}
use Rattle.log_levels.proofs.RangeLemmas.{IsWritten}
use Rattle.log_levels.proofs.log_map.LogMap.range.Given as goal

abbrev pub invariant-loop-count : goal.invariant-loop-count
invariant-loop-count l = record {
  at : IsLeft l.self l.walk l.low;
  few : l.low ≤ 2 ^ 64;
  within : l.count ≤ length l.pairs;
  written : (updates : List Update) →
      StandsFor l.self updates → IsWritten (pairs_between (map_after updates) l.from l.to)
      (pairs_between (map_after updates) l.low l.to) l.pairs l.initial.pairs l.count;
}

abbrev pub decreases-loop-count : goal.decreases-loop-count
decreases-loop-count l = 2 ^ 64 - l.low
