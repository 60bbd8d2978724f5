-- The lanes so far have places inside the list.
use Rattle.std.proofs.Common.{◌≡◌, ◌<◌, ℕ, length, slice_index}
use Rattle.levels.specs.Indexes.{xs_at}
use Rattle.key_search.specs.Interleaved.{IsAmong}
use Rattle.levels.proofs.index.Index.runs_among.Given as goal

abbrev pub invariant-loop-lane : goal.invariant-loop-lane
invariant-loop-lane l = record {
  lanes : length l.runs ≡ 16;
  done : (k : ℕ) →
      k < l.lane → IsAmong (xs_at l.self.keys l.self.levels 1) (slice_index l.qs k) (slice_index l.runs k) l.count;
}
