-- The places are the positions of the questions, one by one.
use Rattle.std.proofs.Common.{◌≡◌, ◌++◌, ◌∙◌, List, ℕ, slice_index, subst, ap, arith}
use Rattle.std.specs.List.Sorted.{IsNonDecreasing}
use Rattle.std.proofs.lemmas.List.{take_all}
use Rattle.key_search.proofs.CallerLemmas.{block_positions}
use Rattle.levels.proofs.index.Index.push_block.Goals as goal

pub returns-clause-positions : goal.returns-clause-positions
returns-clause-positions c =
    let keys = c.args.self.now.keys in
    let inv = c.loop-place.invariant in
    let places = c.find_block.new.places in
    let file : c.as_slice.result.now ≡ keys = c.as_slice.ensures.keys ∙ c.keys.ensures in
    let order : IsNonDecreasing keys = subst IsNonDecreasing file c.as_slice.ensures.never_falls in
    let all =
    take_all c.loop-place.place-index places (omega (arith, c.find_block.ensures.lanes, c.loop-place-test.false)) in
    let found = block_positions keys c.args.qs.now c.loop-lane.asked places (slice_index c.as_slice.result.now 0) order
    (ap (λ (l : List ℕ). slice_index l 0) file) c.requires.sixteen c.find_block.ensures.lanes
    (λ k inside. c.loop-lane.invariant.done k (omega (arith, c.loop-lane-test.false))) c.find_block.ensures.found in
    inv.places ∙ ap (λ (l : List ℕ). c.args.into.now.items ++ l) (all ∙ found)
