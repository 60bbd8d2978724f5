-- The runs of this level, one a question.
use Rattle.std.proofs.Common.{◌+◌, ◌<◌, length}
use Rattle.levels.specs.Indexes.{xs_at}
use Rattle.levels.specs.Interleaved.{AreRuns}
use Rattle.levels.proofs.index.Index.runs_by_levels_interleaved.Given as goal

abbrev pub invariant-loop-level : goal.invariant-loop-level
invariant-loop-level l = record {
  inside : l.level < length l.self.levels;
  runs : AreRuns (xs_at l.self.keys l.self.levels (l.level + 1)) l.qs l.places;
}

abbrev pub decreases-loop-level : goal.decreases-loop-level
decreases-loop-level l = l.level
