use Rattle.std.proofs.Common.{◌≡◌, ◌<◌, ◌≤◌, length, take}
use Rattle.key_points.specs.KeyPoints.{distinct_of}
use Rattle.key_points.specs.Groups.{IsGroupStart}
use Rattle.key_points.proofs.parts.start_of_group.Given as goal

-- so many distinct keys lie before, and the next group begins here
abbrev pub invariant-loop : goal.invariant-loop
invariant-loop l = record {
  inside : l.at ≤ length l.file;
  counted : length (distinct_of (take l.at l.file)) ≡ l.counter;
  start : l.at < length l.file → IsGroupStart l.file l.at;
}
