use Rattle.std.proofs.Common.{◌≡◌, ◌<◌, ◌≤◌, ◌-◌, length, take}
use Rattle.std.specs.List.{flat_map}
use Rattle.key_points.specs.KeyPoints.{distinct_of, with_closing}
use Rattle.key_points.specs.Groups.{IsGroupStart}
use Rattle.key_points.proofs.parts.count_points.Given as goal

-- so many points have the groups so far, and the next one begins here
abbrev pub invariant-loop-at : goal.invariant-loop-at
invariant-loop-at l = record {
  inside : l.at ≤ length l.file;
  counted : l.points ≡ length (flat_map (with_closing l.file) (distinct_of (take l.at l.file)));
  few : l.points ≤ l.at;
  start : l.at < length l.file → IsGroupStart l.file l.at;
}

abbrev pub decreases-loop-at : goal.decreases-loop-at
decreases-loop-at l = length l.initial.file - l.at
