use Rattle.std.proofs.Common.{◌<◌, ◌≤◌, ◌*◌, ◌-◌, length, take, min, vec_len, vec_capacity}
use Rattle.key_points.specs.KeyPoints.{distinct_of}
use Rattle.key_points.specs.Groups.{HoldsUpTo, IsGroupStart}
use Rattle.key_points.proofs.parts.parts_of.Given as goal

-- the groups so far, and the next one begins here; there is room for all
abbrev pub invariant-loop-at : goal.invariant-loop-at
invariant-loop-at l = record {
  holds : HoldsUpTo l.file l.at l.parts.xs.items l.parts.ys.items;
  start : l.at < length l.file → IsGroupStart l.file l.at;
  xs_few : vec_len l.parts.xs ≤ l.at;
  xs_twice : vec_len l.parts.xs ≤ 2 * length (distinct_of (take l.at l.file));
  ys_few : vec_len l.parts.ys ≤ l.at;
  ys_twice : vec_len l.parts.ys ≤ 2 * length (distinct_of (take l.at l.file));
  xs_room : min (2 * l.count) (length l.file) ≤ vec_capacity l.parts.xs;
  ys_room : min (2 * l.count) (length l.file) ≤ vec_capacity l.parts.ys;
}

abbrev pub decreases-loop-at : goal.decreases-loop-at
decreases-loop-at l = length l.initial.file - l.at
