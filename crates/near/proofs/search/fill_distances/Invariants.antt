-- The pairs of the codes so far.
use Rattle.std.proofs.Common.{◌≡◌, ◌≤◌, take, vec_len, vec_capacity}
use Rattle.near.specs.Nearest.{pairs_of}
use Rattle.near.proofs.search.fill_distances.Given as goal

abbrev pub invariant-loop-code : goal.invariant-loop-code
invariant-loop-code l = record {
  pairs : l.pairs.items ≡ pairs_of l.d l.centre (take l.code-index l.codes);
  len : vec_len l.pairs ≡ l.code-index;
  room : vec_capacity l.fn.pairs ≤ vec_capacity l.pairs;
}
