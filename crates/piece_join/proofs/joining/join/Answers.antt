-- Points have one segmentation.
use Rattle.std.proofs.Common.{subst}
use Rattle.std.proofs.lemmas.Result.{IfOk-weaker}
use Rattle.exact_cross.specs.PointLists.{points_in}
use Rattle.exact_cross.specs.Segmentation.{IsSegmentation}
use Rattle.exact_cross.proofs.Unique.{IsSegmentation-unique}
use Rattle.piece_join.proofs.joining.join.Goals as goal

pub returns-then-edge-to-clause-one_list : goal.returns-then-edge-to-clause-one_list
returns-then-edge-to-clause-one_list c = λ others whole.
    let p = points_in c.args.points in
    IsSegmentation-unique p c.args.eps 0 c.args.to c.args.left.items others
    (subst (λ n. IsSegmentation p c.args.eps 0 n c.args.left.items) c.if-edge-to.true c.requires.left) whole

pub returns-clause-one_list : goal.returns-clause-one_list
returns-clause-one_list c =
    let p = points_in c.args.points in
    IfOk-weaker c.join_from.result _ _
    (λ segments own others whole. IsSegmentation-unique p c.args.eps 0 c.args.to segments.items others own whole)
    c.join_from.ensures
