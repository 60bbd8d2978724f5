-- The run of the level has the last first x at or before q, and each level above took its share of steps.
use Rattle.std.proofs.Common.{◌+◌, ◌-◌, ◌*◌, ◌^◌, ◌<◌, length}
use Rattle.window_search.specs.Searches.{IsPredecessor}
use Rattle.levels.specs.Costs.{TakesAtMost}
use Rattle.levels.specs.Indexes.{xs_at}
use Rattle.levels.proofs.index.Index.run_by_levels.Given as goal

abbrev pub invariant-loop-level : goal.invariant-loop-level
invariant-loop-level g l = record {
  inside : l.level < length l.self.levels;
  run : IsPredecessor (xs_at l.self.keys l.self.levels (l.level + 1)) l.q l.run;
  cost : TakesAtMost ((4 * (2 * l.self.eps_rec + 3)) ^ (length l.self.levels - 1 - l.level)) l.fn.steps l.steps;
}

abbrev pub decreases-loop-level : goal.decreases-loop-level
decreases-loop-level g l = l.level
