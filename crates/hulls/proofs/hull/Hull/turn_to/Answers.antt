-- Where the slope from the lower place to the lifted new point isn't less than the pair's, the pair stays.
use Rattle.std.proofs.lemmas.Bool.{OnTrue_at, OnFalse_at}
use Rattle.hulls.proofs.HullSteps.{read_slope, read_left, run_positive, left_of_next, pair_positive, IsHullUpTo-keeps}
use Rattle.hulls.proofs.hull.Hull.turn_to.Goals as goal

pub between-requires-clause-right : goal.between-requires-clause-right
between-requires-clause-right g c =
    let hull = c.args.self.now in
    let is = c.requires.6 in
    read_left hull.vertices.items hull.tangent _ c.args.next is.inside c.index-low.ensures
    (left_of_next c.requires.0
    c.requires.1 c.requires.2 c.requires.3 c.requires.4 c.requires.3 hull c.args.next c.requires.5 is c.requires.7)

pub is_below-requires-clause-this : goal.is_below-requires-clause-this
is_below-requires-clause-this g c =
    let hull = c.args.self.now in
    let is = c.requires.6 in
    run_positive c.index-low.result.now c.args.next c.args.lift c.between.result.slope
    (read_left hull.vertices.items hull.tangent _ c.args.next is.inside c.index-low.ensures
    (left_of_next c.requires.0
    c.requires.1 c.requires.2 c.requires.3 c.requires.4 c.requires.3 hull c.args.next c.requires.5 is c.requires.7))
    c.between.ensures

pub is_below-requires-clause-that : goal.is_below-requires-clause-that
is_below-requires-clause-that g c = pair_positive c.requires.0 c.requires.1
    c.requires.2 c.requires.3 c.requires.4 c.args.self.now c.args.next c.requires.5 c.requires.6 c.requires.7

pub turn-requires-clause-ahead : goal.turn-requires-clause-ahead
turn-requires-clause-ahead g c = c.requires

pub turn-requires-clause-less : goal.turn-requires-clause-less
turn-requires-clause-less g c =
    let hull = c.args.self.now in
    let slope = read_slope hull.vertices.items
    hull.tangent c.args.lift _ c.args.next _ c.requires.6.inside c.index-low.ensures c.between.ensures in
    rw slope at (OnTrue_at c.if-not-is_below.false c.is_below.ensures.less)

pub returns-then-not-is_below-clause-pair : goal.returns-then-not-is_below-clause-pair
returns-then-not-is_below-clause-pair g c = λ q eps s e m is passed new twice bounded servable under.
    let hull = c.args.self.now in
    let slope = read_slope
    hull.vertices.items hull.tangent c.args.lift _ c.args.next _ is.inside c.index-low.ensures c.between.ensures in
    IsHullUpTo-keeps q eps s e m c.args.lift hull c.args.next is passed new twice bounded under
    (rw slope at (OnFalse_at c.if-not-is_below.true c.is_below.ensures.not_less))

pub returns-clause-pair : goal.returns-clause-pair
returns-clause-pair g c = λ q eps s e m is passed new twice bounded servable under.
    c.turn.ensures.pair q eps s e m is passed new twice servable
