-- The values so far are in range.
use Rattle.std.proofs.Common.{◌≡◌, ℕ, ◌%◌, ◌<◌, ◌^◌, length, slice_index}
use Rattle.zorder.specs.Codes.{coordinate_bits}
use Rattle.index_tests.proofs.boxes_rows.are_points.Given as goal

abbrev pub invariant-loop-value : goal.invariant-loop-value
invariant-loop-value g l = record {
  few : length l.points < 10000;
  whole : length l.points % l.d ≡ 0;
  range : (k : ℕ) → k < l.value-index → slice_index l.points k < 2 ^ coordinate_bits l.d;
}
