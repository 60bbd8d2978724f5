-- The models of the runs so far.
use Rattle.std.proofs.Common.{◌≡◌, ◌-◌, ◌<◌, ℕ, length, slice_index, slice_index_or}
use Rattle.exact_cross.specs.declared.segment.Segment.{Segment}
use Rattle.levels.specs.declared.model.RunModel.{RunModel}
use Rattle.levels.specs.Models.{IsModelOf, IsEndOf}
use Rattle.levels.proofs.build.models_over.Given as goal

abbrev pub invariant-loop-run : goal.invariant-loop-run
invariant-loop-run l = record {
  count : length l.models.items ≡ l.run;
  each : (k e : ℕ) (d : Segment) (m : RunModel) → k < l.run → IsEndOf l.segments (length l.points.xs.now) k e →
      IsModelOf (slice_index_or l.segments k d).line (slice_index l.points.xs.now (slice_index_or l.segments k d).start)
      (slice_index l.points.ys.now (e - 1)) l.eps (slice_index_or l.models.items k m);
}
