-- The longest run from the place is one run more.
use Rattle.exact_cross.specs.PointLists.{points_in}
use Rattle.hulls.specs.Hulls.{bound_of}
use Rattle.piece_join.proofs.Begun.{IsBegun-push}
use Rattle.piece_join.proofs.joining.add_run.Goals as goal

pub returns-clause-begun : goal.returns-clause-begun
returns-clause-begun g c =
    let run = c.longest_run-run.ensures in
    rw c.in_ok-push.ensures.items
    (IsBegun-push (points_in c.args.points)
    (bound_of c.args.hulls.now) 0 c.args.to c.args.at c.longest_run-run.result.end c.args.joined.now.items
    c.longest_run-run.result.segment c.requires.begun run.start run.further run.longest run.steep run.cut)
