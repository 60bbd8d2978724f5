-- The positions of the questions so far, and room for those of the others.
use Rattle.std.proofs.Common.{◌≡◌, ◌+◌, ◌++◌, ◌≤◌, length, take, map}
use Rattle.std.specs.Prelude.{vec_len, vec_capacity}
use Rattle.window_search.specs.Searches.{lb}
use Rattle.bucketed.proofs.buckets.Buckets.push_each.Given as goal

abbrev pub invariant-loop-q : goal.invariant-loop-q
invariant-loop-q l = record {
  positions : l.into.items ≡ l.initial.into.items ++ map (lb l.self.index.keys) (take l.q-index l.qs);
  count : vec_len l.into ≡ vec_len l.initial.into + l.q-index;
  room : vec_len l.initial.into + length l.qs ≤ vec_capacity l.into;
  capacity : vec_capacity l.initial.into ≤ vec_capacity l.into;
}
