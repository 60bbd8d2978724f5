use Rattle.std.proofs.Common.{◌≡◌, ◌^◌, ◌<◌, ℕ, List, Some, length, slice_index}
use Rattle.std.specs.Int.{bit_at}
use Rattle.tombstones.specs.declared.entry.Entry.{Entry}
use Rattle.window_search.specs.Searches.{lb}
use Rattle.map_level.specs.Levels.{level_keys}
use Rattle.log_levels.specs.Shapes.{level_of}
use Rattle.log_levels.proofs.log_map.LogMap.places.Given as goal

-- the places in the levels so far
abbrev pub invariant-loop-rest : goal.invariant-loop-rest
invariant-loop-rest l = record {
  within : l.rest < 2 ^ length l.self.levels;
  room : length l.places ≡ 26;
  done : (i : ℕ) (level : List Entry) → i < length l.self.levels →
      bit_at l.rest i ≡ 0 → level_of l.self i ≡ Some level → slice_index l.places i ≡ lb (level_keys level) l.key;
}

abbrev pub decreases-loop-rest : goal.decreases-loop-rest
decreases-loop-rest l = l.rest
