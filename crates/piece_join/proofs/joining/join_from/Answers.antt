-- On the left all runs but the last are those of all places.
use Rattle.std.proofs.Common.{subst, arith}
use Rattle.exact_cross.specs.PointLists.{points_in}
use Rattle.exact_cross.specs.Segmentation.{IsSegmentation}
use Rattle.piece_join.proofs.Begun.{IsBegun-front, start_below}
use Rattle.piece_join.proofs.joining.join_from.Goals as goal

pub go_on-requires-clause-at : goal.go_on-requires-clause-at
go_on-requires-clause-at g c =
    let p = points_in c.args.points in
    let left = subst (IsSegmentation p c.args.eps 0 c.args._edge) c.in-Some.ensures.items c.requires.left in
    omega (arith, start_below p c.args.eps 0 c.args._edge c.pop.new.self.items c.in-Some.last left)

pub go_on-requires-clause-begun : goal.go_on-requires-clause-begun
go_on-requires-clause-begun g c =
    let p = points_in c.args.points in
    let left = subst (IsSegmentation p c.args.eps 0 c.args._edge) c.in-Some.ensures.items c.requires.left in
    rw c.in_ok-hulls.ensures.bound
    (IsBegun-front p c.args.eps 0 c.args._edge c.args.to c.pop.new.self.items c.in-Some.last (omega arith) left)
