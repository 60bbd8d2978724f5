-- Points have one segmentation.
use Rattle.std.proofs.Common.{length}
use Rattle.std.proofs.lemmas.Result.{IfOk-weaker}
use Rattle.exact_cross.specs.PointLists.{points_in}
use Rattle.exact_cross.proofs.Unique.{IsSegmentation-unique}
use Rattle.piece_join.proofs.pieces.segment_in_pieces.Goals as goal

pub returns-clause-one_list : goal.returns-clause-one_list
returns-clause-one_list g c =
    let points = c.args.points in
    IfOk-weaker c.joined_from.result _ _
    (λ segments own others whole.
    IsSegmentation-unique (points_in points) c.args.eps 0 (length points.xs.now) segments.items others own whole)
    c.joined_from.ensures
