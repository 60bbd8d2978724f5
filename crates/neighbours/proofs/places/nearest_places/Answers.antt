-- With nothing asked for nothing is written, and else the front of the room is filled.
use Rattle.std.proofs.Common.{◌≡◌, ◌++◌, List, length, take, drop, sym, ◌∙◌, subst, arith}
use Rattle.std.proofs.lemmas.List.{length-take, take-append-le, take_all}
use Rattle.neighbours.specs.declared.neighbour.Neighbour.{Neighbour}
use Rattle.neighbours.specs.Metrics.{AreInOrder, far}
use Rattle.neighbours.specs.Neighbours.{AreNearestPlaces}
use Rattle.neighbours.proofs.NearestLemmas.{nearest_from_chosen, none_are_nearest, none_are_some}
use Rattle.neighbours.proofs.places.nearest_places.Goals as goal

pub returns-then-found-eq0-clause-some : goal.returns-then-found-eq0-clause-some
returns-then-found-eq0-clause-some g c =
    none_are_some (far g.M.Metric.step c.args.centre.now.d c.args.centre.now.coords) c.args.codes.now

pub returns-then-found-eq0-clause-nearest : goal.returns-then-found-eq0-clause-nearest
returns-then-found-eq0-clause-nearest g c =
    λ are. none_are_nearest (far g.M.Metric.step c.args.centre.now.d c.args.centre.now.coords) c.args.codes.now

pub returns-clause-nearest : goal.returns-clause-nearest
returns-clause-nearest g c = λ are.
    let by = far g.M.Metric.step c.args.centre.now.d c.args.centre.now.coords in
    let codes = c.args.codes.now in
    let old = c.args.neighbours.now in
    let k = c.min-found.result in
    let xs = c.fill_nearest.new.kept in
    let long : k ≡ length xs = omega (arith, c.fill_nearest.ensures.len, length-take k old, c.min-found.ensures) in
    let front : take k (xs ++ drop k old) ≡ xs =
    take-append-le k xs (drop k old) (omega (arith, long)) ∙ take_all k xs (omega (arith, long)) in
    subst (λ (list : List Neighbour). AreNearestPlaces by codes k list) (sym front)
    (nearest_from_chosen by codes (AreInOrder c.args.centre.now.d codes) k xs c.fill_nearest.ensures.chosen
    c.fill_nearest.ensures.order long are)
