use Rattle.std.proofs.Common.{◌≡◌, ◌≤◌, ◌<◌, ◌^◌, length, take}
use Rattle.map_level.specs.Filters.{ArePassed}
use Rattle.map_level.specs.Levels.{level_keys}
use Rattle.map_level.proofs.filter.keys_with_filter.Given as goal

abbrev pub invariant-loop-entry : goal.invariant-loop-entry
invariant-loop-entry l = record {
  keys : l.keys.items ≡ level_keys (take l.entry-index l.entries);
  some : 0 < length l.words.items;
  few : length l.words.items ≤ 2 ^ 32;
  passed : ArePassed l.words.items l.keys.items;
}
