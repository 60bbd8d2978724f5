use Rattle.std.proofs.Common.{◌≡◌, ◌-◌, ◌^◌, ◌<◌, ◌≤◌, ◌++◌, ℕ, List, None}
use Rattle.log_levels.specs.declared.update.Update.{Update}
use Rattle.log_levels.specs.Maps.{map_after, value_at, pairs_between}
use Rattle.log_levels.specs.Shapes.{StandsFor}
use Rattle.log_levels.specs.Kept.{IsLeft}
use Rattle.log_levels.proofs.log_map.LogMap.all_pairs.Given as goal

abbrev pub invariant-loop-key : goal.invariant-loop-key
invariant-loop-key l = record {
  at : IsLeft l.self l.walk l.from;
  few : l.from ≤ 2 ^ 64;
  list : (updates : List Update) (high : ℕ) →
      StandsFor l.self updates → ((key : ℕ) → high < key → value_at (map_after updates) key ≡ None)
      → pairs_between (map_after updates) 0 high ≡ l.pairs.items ++ pairs_between (map_after updates) l.from high;
}

abbrev pub decreases-loop-key : goal.decreases-loop-key
decreases-loop-key l = 2 ^ 64 - l.from
