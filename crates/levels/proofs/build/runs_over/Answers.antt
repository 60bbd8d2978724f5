-- A segmentation is laid.
use Rattle.std.proofs.Common.{length, arith}
use Rattle.exact_cross.specs.PointLists.{points_in}
use Rattle.piece_join.proofs.RelaxedLemmas.{IsLaid-from_piece}
use Rattle.levels.proofs.build.runs_over.Goals as goal

pub models_over-requires-clause-segments : goal.models_over-requires-clause-segments
models_over-requires-clause-segments g c =
    let points = c.args.points in
    rw c.deref.ensures.value
    (IsLaid-from_piece (points_in points) c.args.eps 0 (length points.xs.now) c.in_ok-segments.segments.items
    (omega arith) c.in_ok-segments.ensures.least.segmentation)
