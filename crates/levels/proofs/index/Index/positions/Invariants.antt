-- The positions of the questions before the rest, and room for those of the rest.
use Rattle.std.proofs.Common.{◌≡◌, ◌+◌, ◌++◌, ◌<◌, ◌≤◌, List, ℕ, length, map}
use Rattle.std.specs.Prelude.{vec_len, vec_capacity}
use Rattle.window_search.specs.Searches.{lb}
use Rattle.levels.proofs.index.Index.positions.Given as goal

abbrev pub invariant-loop-rest : goal.invariant-loop-rest
invariant-loop-rest l = record {
  some : 0 < length l.self.keys;
  before : (before : List ℕ)
      × (l.fn.qs ≡ before ++ l.rest) × (l.into.items ≡ l.fn.into.items ++ map (lb l.self.keys) before);
  room : vec_len l.into + length l.rest ≤ vec_capacity l.into;
  capacity : vec_capacity l.fn.into ≤ vec_capacity l.into;
}

abbrev pub decreases-loop-rest : goal.decreases-loop-rest
decreases-loop-rest l = length l.rest
