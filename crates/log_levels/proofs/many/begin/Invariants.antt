-- The searches below `i` have begun, and the others are as they were.
use Rattle.std.proofs.Common.{◌≡◌, ◌<◌, ◌≤◌, ℕ, length, slice_index, slice_index_or}
use Rattle.tombstones.specs.Entries.{entry_at}
use Rattle.log_levels.specs.declared.many.Search.TheVariants.{Open}
use Rattle.log_levels.specs.Kept.{IsBegun}
use Rattle.log_levels.proofs.many.begin.Given as goal

abbrev pub invariant-loop-i : goal.invariant-loop-i
invariant-loop-i l = record {
  count : length l.searches ≡ length l.initial.searches;
  begun : (k : ℕ) → k < l.i → IsBegun (entry_at l.level (slice_index l.keys k))
      (slice_index_or l.initial.searches k Open) (slice_index_or l.searches k Open);
  rest : (k : ℕ) → l.i ≤ k → slice_index_or l.searches k Open ≡ slice_index_or l.initial.searches k Open;
}
