-- Both searches are told alike: by the metric's number, and by the point that was given.
use Rattle.std.proofs.Common.{◌≡◌, ℕ, ◌+◌, ◌*◌, max, sym, ap, arith}
use Rattle.kuldebiq.specs.declared.answer.Answer.{Answer}
use Rattle.kuldebiq.specs.MetricNumbers.{step_of}
use Rattle.kuldebiq.proofs.NearestPlaces.{some_told, nearest_told}
use Rattle.kuldebiq.proofs.near_calls.kuldebiq_nearest.Goals as goal

pub returns-then-metric-eq-CHEBYSHEV-clause-some : goal.returns-then-metric-eq-CHEBYSHEV-clause-some
returns-then-metric-eq-CHEBYSHEV-clause-some c = λ done.
    let is : c.args.metric ≡ 0 = omega (arith, c.if-metric-eq-CHEBYSHEV.true) in
    some_told max (step_of c.args.metric) (sym (ap step_of is)) c.centre_of-centre.result.d
    c.centre_of-centre.result.coords c.args.centre.now c.centre_of-centre.ensures.dims c.centre_of-centre.ensures.coords
    c.args.codes.now c.nearest_places-found.result c.given.result.number
    (sym (ap (λ (answer : Answer). answer.number) c.given.ensures)) c.nearest_places-found.new.neighbours
    c.nearest_places-found.ensures.some

pub returns-then-metric-eq-CHEBYSHEV-clause-nearest : goal.returns-then-metric-eq-CHEBYSHEV-clause-nearest
returns-then-metric-eq-CHEBYSHEV-clause-nearest c = λ done.
    let is : c.args.metric ≡ 0 = omega (arith, c.if-metric-eq-CHEBYSHEV.true) in
    nearest_told max (step_of c.args.metric) (sym (ap step_of is)) c.centre_of-centre.result.d
    c.centre_of-centre.result.coords c.args.centre.now c.centre_of-centre.ensures.dims c.centre_of-centre.ensures.coords
    c.args.codes.now c.nearest_places-found.result c.given.result.number
    (sym (ap (λ (answer : Answer). answer.number) c.given.ensures)) c.nearest_places-found.new.neighbours
    c.nearest_places-found.ensures.nearest

pub returns-then-metric-eq-EUCLID-clause-some : goal.returns-then-metric-eq-EUCLID-clause-some
returns-then-metric-eq-EUCLID-clause-some c = λ done.
    let is : c.args.metric ≡ 1 = omega (arith, c.if-metric-eq-EUCLID.true) in
    some_told (λ so_far apart. so_far + apart * apart) (step_of c.args.metric) (sym (ap step_of is))
    c.centre_of-centre.result.d c.centre_of-centre.result.coords c.args.centre.now c.centre_of-centre.ensures.dims
    c.centre_of-centre.ensures.coords c.args.codes.now c.nearest_places-found-then-metric-eq-EUCLID.result
    c.given-then-metric-eq-EUCLID.result.number
    (sym (ap (λ (answer : Answer). answer.number) c.given-then-metric-eq-EUCLID.ensures))
    c.nearest_places-found-then-metric-eq-EUCLID.new.neighbours
    c.nearest_places-found-then-metric-eq-EUCLID.ensures.some

pub returns-then-metric-eq-EUCLID-clause-nearest : goal.returns-then-metric-eq-EUCLID-clause-nearest
returns-then-metric-eq-EUCLID-clause-nearest c = λ done.
    let is : c.args.metric ≡ 1 = omega (arith, c.if-metric-eq-EUCLID.true) in
    nearest_told (λ so_far apart. so_far + apart * apart) (step_of c.args.metric) (sym (ap step_of is))
    c.centre_of-centre.result.d c.centre_of-centre.result.coords c.args.centre.now c.centre_of-centre.ensures.dims
    c.centre_of-centre.ensures.coords c.args.codes.now c.nearest_places-found-then-metric-eq-EUCLID.result
    c.given-then-metric-eq-EUCLID.result.number
    (sym (ap (λ (answer : Answer). answer.number) c.given-then-metric-eq-EUCLID.ensures))
    c.nearest_places-found-then-metric-eq-EUCLID.new.neighbours
    c.nearest_places-found-then-metric-eq-EUCLID.ensures.nearest
