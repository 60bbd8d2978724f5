-- A code below that of the box's low corner, or above that of its high one, is outside.
use Rattle.std.proofs.Common.{◌+◌, ◌<◌, ◌≤◌, ◌^◌, get_or, inl, inr, ap, ◌∙◌, arith}
use Rattle.std.proofs.lemmas.Bool.{cases_lt}
use Rattle.window_search.specs.Searches.{lb}
use Rattle.window_search.proofs.CallerLemmas.{IsLowerBound-lb}
use Rattle.zorder.specs.declared.regions.Region.{Region}
use Rattle.zorder.specs.Codes.{code}
use Rattle.neighbours.specs.Metrics.{far}
use Rattle.neighbours.proofs.BoxLemmas.{nearer_before, outside_is_further}
use Rattle.neighbours.proofs.places.places_within.Goals as goal

pub returns-clause-before : goal.returns-clause-before
returns-clause-before g c = λ are k less.
    let d = c.args.centre.now.d in
    let centre = c.args.centre.now.coords in
    let codes = c.args.codes.now in
    let box = c.of-corners.ensures ∙ c.region_around.ensures.region in
    let z = get_or codes k 0 in
    let bound = IsLowerBound-lb codes c.low.result are.never_falls in
    let first : k < lb codes c.low.result = omega (arith, c.position.ensures.found are.never_falls) in
    nearer_before c.args.one (far g.M.Metric.step d centre z) k (omega arith)
    (omega (
      arith,
      c.whole_distance.ensures,
      outside_is_further g.M.Metric.step d centre z c.whole_distance.result c.reach-reach.result
          g.met.M.Metric.grows c.reach-reach.ensures c.args.centre.now.dimension c.args.centre.now.range (omega arith)
          (are.each k 0 (omega (arith, bound.within)))
          (inl (omega (
            arith,
            bound.before k first,
            c.low.ensures ∙ ap (λ (region : Region). code region.d region.low) box,
          ))),
    ))

pub returns-clause-behind : goal.returns-clause-behind
returns-clause-behind g c = λ are k from within.
    let d = c.args.centre.now.d in
    let centre = c.args.centre.now.coords in
    let codes = c.args.codes.now in
    let box = c.of-corners.ensures ∙ c.region_around.ensures.region in
    let z = get_or codes k 0 in
    elim (cases_lt (c.high.result + 1) (2 ^ 64)) [
      | inl some ↦
          let bound = IsLowerBound-lb codes (c.high.result + 1) are.never_falls in
          let found = (c.upper_bound.ensures.place some).found are.never_falls in
          let last : lb codes (c.high.result + 1) ≤ k = omega (arith, found) in
          nearer_before c.args.one (far g.M.Metric.step d centre z) k (omega arith)
          (omega (
            arith,
            c.whole_distance.ensures,
            outside_is_further g.M.Metric.step d centre z c.whole_distance.result c.reach-reach.result
                g.met.M.Metric.grows c.reach-reach.ensures c.args.centre.now.dimension c.args.centre.now.range
                (omega arith)
                (are.each k 0 within)
                (inr (omega (
                  arith,
                  bound.from k last within,
                  c.high.ensures ∙ ap (λ (region : Region). code region.d region.high) box,
                ))),
          ))
      | inr none ↦ absurd (omega (arith, c.upper_bound.ensures.end none))
    ]

pub returns-clause-within : goal.returns-clause-within
returns-clause-within g c = elim (cases_lt (c.high.result + 1) (2 ^ 64)) [
  | inl some ↦ omega (arith, (c.upper_bound.ensures.place some).bracket.within)
  | inr none ↦ omega (arith, c.upper_bound.ensures.end none)
]
