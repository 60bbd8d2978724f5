-- The point is over the pair's line where the slope to it is above the pair's.
use Rattle.hulls.proofs.HullSteps.{read_left, run_positive, left_of_next}
use Rattle.hulls.proofs.HullSteps.{pair_positive, over-from_test, not_over-from_test}
use Rattle.hulls.proofs.hull.Hull.is_over.Goals as goal

pub between-requires-clause-right : goal.between-requires-clause-right
between-requires-clause-right g c =
    let hull = c.args.self.now in
    let is = c.requires.6 in
    read_left hull.vertices.items hull.tangent _ c.args.next is.inside c.index-low.ensures
    (left_of_next c.requires.0
    c.requires.1 c.requires.2 c.requires.3 c.requires.4 c.requires.3 hull c.args.next c.requires.5 is c.requires.7)

pub is_below-requires-clause-this : goal.is_below-requires-clause-this
is_below-requires-clause-this g c = pair_positive c.requires.0 c.requires.1
    c.requires.2 c.requires.3 c.requires.4 c.args.self.now c.args.next c.requires.5 c.requires.6 c.requires.7

pub is_below-requires-clause-that : goal.is_below-requires-clause-that
is_below-requires-clause-that g c =
    let hull = c.args.self.now in
    let is = c.requires.6 in
    run_positive c.index-low.result.now c.args.next 0 c.between.result.slope
    (read_left hull.vertices.items hull.tangent _ c.args.next is.inside c.index-low.ensures
    (left_of_next c.requires.0
    c.requires.1 c.requires.2 c.requires.3 c.requires.4 c.requires.3 hull c.args.next c.requires.5 is c.requires.7))
    c.between.ensures

pub returns-clause-over : goal.returns-clause-over
returns-clause-over g c = over-from_test c.is_below.result c.args.self.now c.args.next c.index-low.result.now
    c.between.result.slope c.requires.6.inside c.index-low.ensures c.between.ensures c.is_below.ensures.less

pub returns-clause-not_over : goal.returns-clause-not_over
returns-clause-not_over g c = not_over-from_test c.is_below.result c.args.self.now c.args.next c.index-low.result.now
    c.between.result.slope c.requires.6.inside c.index-low.ensures c.between.ensures c.is_below.ensures.not_less
