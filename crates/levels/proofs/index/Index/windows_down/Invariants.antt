-- The windows of the levels above are there, and the run of this level has the last first x at or before q.
use Rattle.std.proofs.Common.{◌+◌, ◌<◌, ◌≤◌, length}
use Rattle.std.specs.Prelude.{vec_capacity}
use Rattle.window_search.specs.Searches.{IsPredecessor}
use Rattle.levels.specs.Indexes.{xs_at}
use Rattle.levels.specs.Lookups.{HasWindowsTo}
use Rattle.levels.proofs.index.Index.windows_down.Given as goal

abbrev pub invariant-loop-level : goal.invariant-loop-level
invariant-loop-level g l = record {
  inside : l.level < length l.self.levels;
  run : IsPredecessor (xs_at l.self.keys l.self.levels (l.level + 1)) l.q l.run;
  windows : HasWindowsTo l.self l.q (l.level + 1) l.into.items;
  room : length l.self.levels ≤ vec_capacity l.into;
  capacity : vec_capacity l.fn.into ≤ vec_capacity l.into;
}

abbrev pub decreases-loop-level : goal.decreases-loop-level
decreases-loop-level g l = l.level
