-- The pieces show that they are a cover, and each has one run without a cut.
use Rattle.std.proofs.Common.{length}
use Rattle.std.proofs.lemmas.Result.{IfOk-weaker}
use Rattle.exact_cross.specs.PointLists.{points_in}
use Rattle.exact_cross.proofs.CallerLemmas.{IsAscending-points_in}
use Rattle.piece_join.proofs.RelaxedLemmas.{AreShown-from_relaxed, uncut-from_relaxed, IsRelaxed-unique}
use Rattle.piece_join.proofs.unjoined.relaxed.Goals as goal

pub returns-clause-one_list : goal.returns-clause-one_list
returns-clause-one_list g c =
    let points = c.args.points in
    IfOk-weaker c.side_by_side.result _ _
    (λ segments own others whole. IsRelaxed-unique
    (points_in points) c.args.eps 0 (length points.xs.now) c.args.cuts.now segments.items others own whole)
    c.side_by_side.ensures

pub returns-clause-shown : goal.returns-clause-shown
returns-clause-shown g c =
    let points = c.args.points in
    IfOk-weaker c.side_by_side.result _ _
    (λ segments own. AreShown-from_relaxed (points_in points) c.args.eps c.args.cuts.now segments.items
    (IsAscending-points_in points) (λ j inside. points.low j)
    c.requires.bounded c.requires.cuts.are own) c.side_by_side.ensures

pub returns-clause-slack : goal.returns-clause-slack
returns-clause-slack g c =
    IfOk-weaker c.side_by_side.result _ _
    (λ segments own some. uncut-from_relaxed
    (points_in c.args.points) c.args.eps c.args.cuts.now segments.items some c.requires.cuts.are own)
    c.side_by_side.ensures
