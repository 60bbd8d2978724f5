use Rattle.std.proofs.Common.{◌≡◌, ◌<◌, ℕ, None, length, slice_index_or}
use Rattle.log_levels.specs.Kept.{levels_of}
use Rattle.log_levels.proofs.log_map.LogMap.new.Given as goal

abbrev pub invariant-loop-level : goal.invariant-loop-level
invariant-loop-level l = record {
  count : length l.stored.items ≡ l._level;
  none : (i : ℕ) → i < l._level → slice_index_or (levels_of l.stored.items) i None ≡ None;
}
