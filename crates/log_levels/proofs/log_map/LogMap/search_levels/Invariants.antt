-- Each search has come as far.
use Rattle.std.proofs.Common.{◌≡◌, ◌<◌, ℕ, List, IsSome, length, slice_index, slice_index_or}
use Rattle.std.specs.Int.{bit_at}
use Rattle.tombstones.specs.declared.entry.Entry.{Entry}
use Rattle.log_levels.specs.declared.many.Search.TheVariants.{Open}
use Rattle.log_levels.specs.Shapes.{IsCutOf, level_of}
use Rattle.log_levels.proofs.ManyLemmas.{IsSearchedTo}
use Rattle.log_levels.proofs.log_map.LogMap.search_levels.Given as goal

abbrev pub invariant-loop-rest : goal.invariant-loop-rest
invariant-loop-rest l = record {
  count : length l.searches ≡ length l.keys;
  taken : (i : ℕ) → bit_at l.rest i ≡ 1 → IsSome (level_of l.self i);
  searched : (entries : List Entry) (k : ℕ) → IsCutOf l.self entries →
      k < length l.keys → IsSearchedTo entries (slice_index l.keys k) l.rest (slice_index_or l.searches k Open);
}

abbrev pub decreases-loop-rest : goal.decreases-loop-rest
decreases-loop-rest l = l.rest
