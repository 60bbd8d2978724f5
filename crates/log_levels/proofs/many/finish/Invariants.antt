-- The searches below `i` have ended, and the others are as they were.
use Rattle.std.proofs.Common.{◌≡◌, ◌<◌, ◌≤◌, ℕ, length, slice_index, slice_index_or}
use Rattle.tombstones.specs.Entries.{entry_at}
use Rattle.log_levels.specs.declared.many.Search.TheVariants.{Open}
use Rattle.log_levels.specs.Kept.{searched}
use Rattle.log_levels.proofs.many.finish.Given as goal

abbrev pub invariant-loop-i : goal.invariant-loop-i
invariant-loop-i l = record {
  count : length l.searches ≡ length l.initial.searches;
  done : (k : ℕ) → k < l.i → slice_index_or l.searches k Open
      ≡ searched (entry_at l.level (slice_index l.keys k)) (slice_index_or l.initial.searches k Open);
  rest : (k : ℕ) → l.i ≤ k → slice_index_or l.searches k Open ≡ slice_index_or l.initial.searches k Open;
}
