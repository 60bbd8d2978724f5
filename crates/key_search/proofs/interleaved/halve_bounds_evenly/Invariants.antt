-- The lanes so far have the places left, and the others all places.
use Rattle.std.proofs.Common.{◌≡◌, ◌*◌, ◌^◌, ◌<◌, ◌≤◌, ℕ, length, slice_index}
use Rattle.key_search.specs.Interleaved.{HasBound}
use Rattle.key_search.proofs.interleaved.halve_bounds_evenly.Given as goal

abbrev pub invariant-loop-lane : goal.invariant-loop-lane
invariant-loop-lane l = record {
  lanes : length l.bases ≡ 16;
  done : (k : ℕ) → k < l.lane → HasBound l.sorted.keys.now (slice_index l.qs k) (slice_index l.bases k) (2 ^ l.shift);
  rest : (k : ℕ) →
      l.lane ≤ k → k < 16 → HasBound l.sorted.keys.now (slice_index l.qs k) (slice_index l.bases k) (2 * 2 ^ l.shift);
}
