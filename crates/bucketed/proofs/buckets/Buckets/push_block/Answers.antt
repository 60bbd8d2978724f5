-- The places are the positions of the questions, one by one.
use Rattle.std.proofs.Common.{◌++◌, ◌∙◌, List, ℕ, slice_index, sym, ap, arith, map}
use Rattle.std.proofs.lemmas.List.{take_all, ext_get_or, get_or-map, length-map}
use Rattle.window_search.specs.Searches.{lb}
use Rattle.levels.specs.Indexes.{PgmIndex}
use Rattle.bucketed.proofs.buckets.Buckets.push_block.Goals as goal

pub returns-clause-positions : goal.returns-clause-positions
returns-clause-positions c =
    let keys = c.args.self.now.index.keys in
    let qs = c.args.qs.now in
    let inv = c.loop-place.invariant in
    let bounds = c.lower_bounds_between in
    let places = bounds.new.places in
    let all = take_all c.loop-place.place-index places (omega (arith, bounds.ensures.lanes, c.loop-place-test.false)) in
    let found = ext_get_or 0 places (map (lb keys) qs)
    (omega (arith, bounds.ensures.lanes, c.requires.sixteen, length-map qs (lb keys))) (λ k inside.
    bounds.ensures.found k (omega (arith, bounds.ensures.lanes))
    ∙ ap (λ (i : PgmIndex). lb i.keys (slice_index c.loop-lane.asked k)) c.index-index.ensures
    ∙ ap (lb keys) (c.loop-lane.invariant.done k (omega (arith, bounds.ensures.lanes, c.loop-lane-test.false)))
    ∙ sym (get_or-map (lb keys) qs k 0 0 (omega (arith, bounds.ensures.lanes, c.requires.sixteen)))) in
    inv.places ∙ ap (λ (l : List ℕ). c.args.into.now.items ++ l) (all ∙ found)
