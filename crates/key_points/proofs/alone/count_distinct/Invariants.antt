use Rattle.std.proofs.Common.{◌≡◌, ◌≤◌, length, take}
use Rattle.key_points.specs.KeyPoints.{distinct_of}
use Rattle.key_points.proofs.alone.count_distinct.Given as goal

abbrev pub invariant-loop-i : goal.invariant-loop-i
invariant-loop-i l = record { counted : l.count ≡ length (distinct_of (take l.i l.file)); few : l.count ≤ l.i }
