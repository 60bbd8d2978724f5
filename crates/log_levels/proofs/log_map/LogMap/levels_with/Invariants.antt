use Rattle.std.proofs.Common.{◌≡◌, ◌<◌, ℕ, None, length, slice_index_or}
use Rattle.log_levels.specs.Kept.{IsGrownLevel, levels_of}
use Rattle.log_levels.proofs.log_map.LogMap.levels_with.Given as goal

abbrev pub invariant-loop-i : goal.invariant-loop-i
invariant-loop-i g l = record {
  count : length l.levels.items ≡ l.i;
  levels : (i : ℕ) → i < l.i → IsGrownLevel l.self l.new i (slice_index_or (levels_of l.levels.items) i None);
}
