use Rattle.std.proofs.Common.{◌≡◌, ◌^◌, ◌<◌, ◌≤◌, ℕ, List, None}
use Rattle.tombstones.specs.declared.entry.Entry.{Entry}
use Rattle.map_level.specs.Levels.{last_at}
use Rattle.log_levels.specs.Shapes.{IsCutOf}
use Rattle.log_levels.specs.Kept.{IsLeft, left_of, value_of}
use Rattle.log_levels.proofs.log_map.LogMap.next_pair.Given as goal

abbrev pub invariant-loop-entry : goal.invariant-loop-entry
invariant-loop-entry l = record {
  left : IsLeft l.self l.walk l.low;
  from : l.from ≤ l.low;
  few : l.low ≤ 2 ^ 64;
  none : (entries : List Entry) (key : ℕ) →
      IsCutOf l.self entries → l.from ≤ key → key < l.low → value_of (last_at entries key) ≡ None;
}

abbrev pub decreases-loop-entry : goal.decreases-loop-entry
decreases-loop-entry l = left_of l.walk.places l.low
