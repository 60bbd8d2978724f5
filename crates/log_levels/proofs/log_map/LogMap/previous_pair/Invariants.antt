use Rattle.std.proofs.Common.{◌≡◌, ◌<◌, ◌≤◌, ℕ, List, None}
use Rattle.tombstones.specs.declared.entry.Entry.{Entry}
use Rattle.map_level.specs.Levels.{last_at}
use Rattle.log_levels.specs.Shapes.{IsCutOf}
use Rattle.log_levels.specs.Kept.{ArePlaces, value_of}
use Rattle.log_levels.proofs.log_map.LogMap.previous_pair.Given as goal

-- the keys from there to the end have no value
abbrev pub invariant-loop-entry : goal.invariant-loop-entry
invariant-loop-entry l = record {
  places : ArePlaces l.self l.places l.high;
  within : l.high ≤ l.end;
  none : (entries : List Entry) (key : ℕ) →
      IsCutOf l.self entries → l.high ≤ key → key < l.end → value_of (last_at entries key) ≡ None;
}

abbrev pub decreases-loop-entry : goal.decreases-loop-entry
decreases-loop-entry l = l.high
