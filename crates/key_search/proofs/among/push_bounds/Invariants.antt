use Rattle.std.proofs.Common.{◌≡◌, ◌+◌, ◌++◌, ◌<◌, ◌≤◌, ℕ, length, take, slice_index}
use Rattle.std.specs.Prelude.{vec_len, vec_capacity}
use Rattle.key_search.proofs.among.push_bounds.Given as goal

-- the questions so far
abbrev pub invariant-loop-lane : goal.invariant-loop-lane
invariant-loop-lane l = record {
  lanes : length l.asked ≡ 16;
  done : (k : ℕ) → k < l.lane → slice_index l.asked k ≡ slice_index l.qs k;
}

-- the places so far
abbrev pub invariant-loop-lane-2 : goal.invariant-loop-lane-2
invariant-loop-lane-2 l = record {
  places : l.into.items ≡ l.initial.into.items ++ take l.lane l.places;
  count : vec_len l.into ≡ vec_len l.initial.into + l.lane;
  room : vec_len l.initial.into + length l.qs ≤ vec_capacity l.into;
  capacity : vec_capacity l.initial.into ≤ vec_capacity l.into;
}
