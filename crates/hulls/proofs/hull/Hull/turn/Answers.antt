-- The walk along the hull finds the new pair.
use Rattle.hulls.specs.Vertices.{vertex_of}
use Rattle.hulls.proofs.HullSteps.{left_of_next, IsHullUpTo-takes}
use Rattle.hulls.proofs.hull.Hull.turn.Goals as goal

pub tangent_to-found-requires-clause-left : goal.tangent_to-found-requires-clause-left
tangent_to-found-requires-clause-left g c =
    let r = c.requires.ahead in
    rw c.deref.ensures.value (left_of_next r.0 r.1 r.2 r.3 r.4 r.3 c.args.self.now (vertex_of c.args.x c.args.height
    c.args.place) r.5 r.6 r.7)

pub returns-clause-pair : goal.returns-clause-pair
returns-clause-pair g c = λ q eps s e m is passed new twice servable.
    let hull = c.args.self.now in
    let found = c.tangent_to-found in
    let walk = rw c.deref.ensures.value at found.ensures in
    IsHullUpTo-takes q eps s e m c.args.lift found.result.vertex hull (vertex_of c.args.x c.args.height c.args.place)
    found.result.slope.slope is passed new twice servable c.requires.less
    walk.onward walk.inside walk.falls walk.stops walk.slope
