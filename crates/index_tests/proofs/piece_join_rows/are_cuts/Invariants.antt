-- The cuts so far rise from 1 on, and the last one is kept.
use Rattle.std.proofs.Common.{◌≡◌, ℕ, ◌+◌, ◌-◌, ◌<◌, slice_index}
use Rattle.index_tests.proofs.piece_join_rows.are_cuts.Given as goal

abbrev pub invariant-loop-cut : goal.invariant-loop-cut
invariant-loop-cut l = record {
  rise : (k : ℕ) → k + 1 < l.cut-index → slice_index l.cuts k < slice_index l.cuts (k + 1);
  inside : (k : ℕ) → k < l.cut-index → (0 < slice_index l.cuts k) × (slice_index l.cuts k < l.m);
  last : 0 < l.cut-index → l.last ≡ slice_index l.cuts (l.cut-index - 1);
}
