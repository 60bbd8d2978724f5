use Rattle.std.proofs.Common.{◌≡◌, ◌/◌, ◌<◌, ℕ, None, length, slice_index_or}
use Rattle.log_levels.specs.Shapes.{IsLevelFor}
use Rattle.log_levels.specs.Kept.{entries_put, levels_of}
use Rattle.log_levels.proofs.load.map_put.Given as goal

abbrev pub invariant-loop-i : goal.invariant-loop-i
invariant-loop-i l = record {
  count : length l.stored.items ≡ l.i;
  levels : (i : ℕ) → i < l.i →
      IsLevelFor (entries_put l.pairs) (length l.pairs / 64) i (slice_index_or (levels_of l.stored.items) i None);
}
