-- The near codes that are below stand in front.
use Rattle.std.proofs.Common.{◌≡◌, ◌∙◌, ◌+◌, ◌-◌, ◌<◌, length, slice_index, take, drop, ap, arith}
use Rattle.std.proofs.lemmas.List.{get_or-take, get_or-drop, length-take-le, length-drop}
use Rattle.boxes.proofs.LookedLemmas.{part_sorted}
use Rattle.boxes.proofs.places.place_of.Goals as goal

pub returns-then-code-codes-clause-below : goal.returns-then-code-codes-clause-below
returns-then-code-codes-clause-below c = λ sorted j after before.
    let codes = c.args.codes.now in
    let behind = c.args.at + 1 in
    let count = c.min-end.result - behind in
    let k = j - behind in
    let long : length (take count (drop behind codes)) ≡ count =
    length-take-le count (drop behind codes) (omega (arith, length-drop behind codes, c.min-end.ensures)) in
    let few : k < count = omega (arith, long, c.front_below.ensures.within, after, before) in
    let place : behind + k ≡ j = omega (arith, after) in
    let near = c.front_below.ensures.below (part_sorted codes behind count sorted) k (omega (arith, after, before)) in
    let read = get_or-take count (drop behind codes) k 0 few ∙ get_or-drop behind codes k 0 in
    omega (arith, near, read ∙ ap (slice_index codes) place)
