use Rattle.std.proofs.Common.{◌≡◌, ◌<◌, ◌≤◌, ℕ, length, slice_index_or}
use Rattle.log_levels.proofs.heads.first_head.Given as goal

-- the first of the heads so far
abbrev pub invariant-loop-k : goal.invariant-loop-k
invariant-loop-k l = record {
  inside : l.place < l.k;
  fits : l.k ≤ length l.items;
  at : (d : ℕ × ℕ) → (slice_index_or l.items l.place d).0 ≡ l.key;
  least : (j : ℕ) (d : ℕ × ℕ) → j < l.k → l.key ≤ (slice_index_or l.items j d).0;
  newest : (j : ℕ) (d : ℕ × ℕ) → j < l.place → l.key < (slice_index_or l.items j d).0;
}
