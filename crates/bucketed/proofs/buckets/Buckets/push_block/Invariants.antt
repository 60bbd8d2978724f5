-- The questions so far, and how many runs begin at or before each; and then the places so far.
use Rattle.std.proofs.Common.{◌≡◌, ◌+◌, ◌++◌, ◌<◌, ◌≤◌, ℕ, length, take, slice_index}
use Rattle.std.specs.Prelude.{vec_len, vec_capacity}
use Rattle.levels.specs.Indexes.{xs_at}
use Rattle.radix_table.specs.Tables.{IsBetween}
use Rattle.bucketed.proofs.buckets.Buckets.push_block.Given as goal

abbrev pub invariant-loop-lane : goal.invariant-loop-lane
invariant-loop-lane l = record {
  lanes : length l.asked ≡ 16;
  lows : length l.least ≡ 16;
  highs : length l.most ≡ 16;
  done : (k : ℕ) → k < l.lane → slice_index l.asked k ≡ slice_index l.qs k;
  between : (k : ℕ) → k < l.lane → IsBetween (xs_at l.self.index.keys l.self.index.levels 1)
      (slice_index l.qs k) (slice_index l.least k) (slice_index l.most k);
}

abbrev pub invariant-loop-place : goal.invariant-loop-place
invariant-loop-place l = record {
  places : l.into.items ≡ l.initial.into.items ++ take l.place-index l.place-items;
  count : vec_len l.into ≡ vec_len l.initial.into + l.place-index;
  room : vec_len l.initial.into + 16 ≤ vec_capacity l.into;
  capacity : vec_capacity l.initial.into ≤ vec_capacity l.into;
}
