use Rattle.std.proofs.Common.{◌≡◌, ◌<◌, ◌≤◌, ◌-◌, ℕ, length, slice_index}
use Rattle.key_points.proofs.parts.end_of.Given as goal

-- the keys up to `end` are equal
abbrev pub invariant-loop-end : goal.invariant-loop-end
invariant-loop-end l = record {
  some : l.at < l.end;
  within : l.end ≤ length l.file;
  same : (k : ℕ) → l.at ≤ k → k < l.end → slice_index l.file k ≡ slice_index l.file l.at;
}

abbrev pub decreases-loop-end : goal.decreases-loop-end
decreases-loop-end l = length l.initial.file - l.end
