-- The levels so far, and how many runs the last one has.
use Rattle.std.proofs.Common.{◌≡◌, ℕ, ◌+◌, ◌*◌, ◌<◌, ◌≤◌, length}
use Rattle.key_points.specs.KeyPoints.{xs_of}
use Rattle.exact_cross.specs.IndexLevels.{level_at}
use Rattle.levels.specs.Indexes.{places_below}
use Rattle.levels.specs.Stored.{AreLevels, segments_of}
use Rattle.levels.proofs.build.levels_over.Given as goal

abbrev pub invariant-loop-runs : goal.invariant-loop-runs
invariant-loop-runs g l = record {
  levels : AreLevels l.points l.bounds.eps l.bounds.eps_rec l.levels.items;
  some : 0 < length l.points;
  above : 0 < length l.levels.items;
  last : (i : ℕ) → i + 1 ≡ length l.levels.items → length (level_at (segments_of l.levels.items) i) ≡ l.runs;
  base : level_at (segments_of l.levels.items) 0 ≡ l.fn.segments.items;
  cost : l.steps + 12 * length (xs_of l.points)
      ≤ l.fn.steps + 12 * places_below l.points (segments_of l.levels.items) (length l.levels.items);
}

abbrev pub decreases-loop-runs : goal.decreases-loop-runs
decreases-loop-runs g l = l.runs
