use Rattle.std.proofs.Common.{◌/◌, List, length}
use Rattle.tombstones.specs.declared.entry.Entry.{Entry}
use Rattle.tombstones.specs.Entries.{IsAscending}
use Rattle.log_levels.specs.Shapes.{IsCutOf}
use Rattle.log_levels.specs.Kept.{IsMergedTo}
use Rattle.log_levels.proofs.log_map.LogMap.merged_below.Given as goal

abbrev pub invariant-loop-i : goal.invariant-loop-i
invariant-loop-i g l = record {
  ascending : IsAscending l.merged.items;
  lasts : (entries : List Entry) →
      IsCutOf l.self entries → IsMergedTo entries (length entries / 64) l.i l.new l.merged.items;
}
