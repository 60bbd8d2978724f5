-- The places are the positions of the questions, one by one.
use Rattle.std.proofs.Common.{◌≡◌, ◌<◌, ◌++◌, ◌∙◌, List, ℕ, slice_index, ap, arith}
use Rattle.window_search.specs.Searches.{lb}
use Rattle.key_search.proofs.LaneLemmas.{lane_positions}
use Rattle.key_search.proofs.among.push_bounds.Goals as goal

pub returns-clause-positions : goal.returns-clause-positions
returns-clause-positions c =
    let keys = c.args.sorted.keys.now in
    let asked = c.loop-lane.asked in
    let places = c.bounds_interleaved.new.bases in
    let bounds = c.bounds_interleaved.ensures in
    let found : (k : ℕ) → k < 16 → slice_index places k ≡ lb keys (slice_index asked k) =
    λ k inside. let here = bounds.each k inside in omega (arith, here.from, here.to) in
    c.loop-lane-2.invariant.places
    ∙ ap (λ (l : List ℕ). c.args.into.now.items ++ l)
    (lane_positions keys c.args.qs.now asked places c.loop-lane-2.lane
    (omega (arith, c.loop-lane-2-test.false, c.loop-lane-2.auto.lane-end)) c.requires.few_questions bounds.lanes
    (λ k inside. c.loop-lane.invariant.done k
    (omega (arith, inside, c.loop-lane-test.false, c.loop-lane-2.auto.lane-end))) found)
