-- A code below that of the box's low corner, or above that of its high one, is outside.
use Rattle.std.proofs.Common.{◌≡◌, ◌+◌, ◌<◌, ◌≤◌, ℕ, List, get_or, ap, inl, inr, ◌∙◌, subst, arith}
use Rattle.std.specs.Prelude.{All}
use Rattle.std.specs.List.Sorted.{IsNonDecreasing}
use Rattle.window_search.specs.Searches.{lb}
use Rattle.window_search.proofs.CallerLemmas.{IsLowerBound-lb}
use Rattle.zorder.specs.declared.regions.Region.{Region}
use Rattle.zorder.specs.Codes.{IsCode, IsDimension, code}
use Rattle.near.specs.Around.{box_around}
use Rattle.near.proofs.BoundLemmas.{outside_behind}
use Rattle.near.proofs.search.places_within.Goals as goal

-- the region of the corners, by the number of coordinates as it is read
box_of : (d d' : ℕ) (centre : List ℕ) (reach : ℕ) (region box : Region) →
    region ≡ box → box ≡ box_around d' centre reach → d' ≡ d → region ≡ box_around d centre reach
box_of d d' centre reach region box is around same = is ∙ around ∙ ap (λ (n : ℕ). box_around n centre reach) same

pub returns-then-highest-clause-before : goal.returns-then-highest-clause-before
returns-then-highest-clause-before c = λ k within.
    let d = c.args.boxes.now.dims in
    let centre = c.args.centre.now in
    let codes = c.args.boxes.now.codes in
    let box = box_of d c.dims.result centre c.args.pair.0 c.of-corners.result.region c.region_around.result
    c.of-corners.ensures c.region_around.ensures.region c.dims.ensures.dims in
    let is = subst IsDimension c.dims.ensures.dims c.dims.ensures.dimension in
    let each = subst (All (IsCode d)) c.codes-codes.ensures.codes c.codes-codes.ensures.each in
    let order = subst IsNonDecreasing c.codes-codes.ensures.codes c.codes-codes.ensures.never_falls in
    let bound = IsLowerBound-lb codes c.low.result order in
    let first : k < lb codes c.low.result = omega (arith, c.lower_bound-first.ensures) in
    outside_behind d centre c.args.pair
    (get_or codes k 0) is c.requires.centre (omega (arith, c.told-centre, is.1)) (omega arith)
    (each k 0 (omega (arith, bound.within)))
    (inl (omega (
      arith,
      bound.before k first,
      c.low.ensures ∙ ap (λ (region : Region). code region.d region.low) box,
    )))

pub returns-clause-before : goal.returns-clause-before
returns-clause-before c = λ k within.
    let d = c.args.boxes.now.dims in
    let centre = c.args.centre.now in
    let codes = c.args.boxes.now.codes in
    let box = box_of d c.dims.result centre c.args.pair.0 c.of-corners.result.region c.region_around.result
    c.of-corners.ensures c.region_around.ensures.region c.dims.ensures.dims in
    let is = subst IsDimension c.dims.ensures.dims c.dims.ensures.dimension in
    let each = subst (All (IsCode d)) c.codes-codes.ensures.codes c.codes-codes.ensures.each in
    let order = subst IsNonDecreasing c.codes-codes.ensures.codes c.codes-codes.ensures.never_falls in
    let bound = IsLowerBound-lb codes c.low.result order in
    let first : k < lb codes c.low.result = omega (arith, c.lower_bound-first.ensures) in
    outside_behind d centre c.args.pair
    (get_or codes k 0) is c.requires.centre (omega (arith, c.told-centre, is.1)) (omega arith)
    (each k 0 (omega (arith, bound.within)))
    (inl (omega (
      arith,
      bound.before k first,
      c.low.ensures ∙ ap (λ (region : Region). code region.d region.low) box,
    )))

pub returns-clause-behind : goal.returns-clause-behind
returns-clause-behind c = λ k from within.
    let d = c.args.boxes.now.dims in
    let centre = c.args.centre.now in
    let codes = c.args.boxes.now.codes in
    let box = box_of d c.dims.result centre c.args.pair.0 c.of-corners.result.region c.region_around.result
    c.of-corners.ensures c.region_around.ensures.region c.dims.ensures.dims in
    let is = subst IsDimension c.dims.ensures.dims c.dims.ensures.dimension in
    let each = subst (All (IsCode d)) c.codes-codes.ensures.codes c.codes-codes.ensures.each in
    let order = subst IsNonDecreasing c.codes-codes.ensures.codes c.codes-codes.ensures.never_falls in
    let bound = IsLowerBound-lb codes (c.high-highest.result + 1) order in
    let last : lb codes (c.high-highest.result + 1) ≤ k = omega (arith, c.lower_bound.ensures) in
    outside_behind d centre c.args.pair
    (get_or codes k 0) is c.requires.centre (omega (arith, c.told-centre, is.1)) (omega arith)
    (each k 0 within)
    (inr (omega (
      arith,
      bound.from k last within,
      c.high-highest.ensures ∙ ap (λ (region : Region). code region.d region.high) box,
    )))
