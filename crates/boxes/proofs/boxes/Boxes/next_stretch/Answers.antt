-- The stretch is codes inside, and behind it the walk goes on over those outside.
use Rattle.std.proofs.Common.{◌≡◌, ℕ, ◌+◌, ◌-◌, ◌++◌, List, length, take, drop, slice_index, sym, ap, ◌∙◌, subst, arith}
use Rattle.zorder.specs.Regions.{IsInside}
use Rattle.boxes.specs.BoxAnswers.{codes_inside}
use Rattle.boxes.specs.Walks.{HasWalked}
use Rattle.boxes.proofs.Fronts.{inside_fronts}
use Rattle.boxes.proofs.LookedLemmas.{of_region, not_empty, walk_along}
use Rattle.boxes.proofs.boxes.Boxes.next_stretch.Goals as goal

pub stretch_end-end-requires-clause-some_inside : goal.stretch_end-end-requires-clause-some_inside
stretch_end-end-requires-clause-some_inside c =
    let codes = c.args.self.now.codes in
    let of = of_region c.args.corners.now.region codes
    _ _ c.codes-codes.ensures.codes c.requires.dims c.codes-codes.ensures.never_falls c.codes-codes.ensures.each in
    not_empty
    c.args.corners.now.region codes of c.args.walk.now.at c.args.walk.now.looked c.requires.here c.requires.walked

pub over_outside-requires-clause-walked : goal.over_outside-requires-clause-walked
over_outside-requires-clause-walked c =
    let region = c.args.corners.now.region in
    let codes = c.args.self.now.codes in
    let is = c.codes-codes.ensures.codes in
    let of =
    of_region region codes _ _ is c.requires.dims c.codes-codes.ensures.never_falls c.codes-codes.ensures.each in
    let at = c.args.walk.now.at in
    let end = c.stretch_end-end.result in
    let place : at + (end - at) ≡ end = omega (arith, c.stretch_end-end.ensures.onwards) in
    subst (λ (n : ℕ). HasWalked region codes n (c.args.walk.now.looked + (end - at))) place
    (walk_along region codes of at c.args.walk.now.looked
    (end - at) (omega (arith, c.stretch_end-end.ensures.within, ap length is)) c.requires.walked
    (λ k from to. subst (IsInside region) (ap (λ (xs : List ℕ). slice_index xs k) is)
    (c.stretch_end-end.ensures.inside c.codes-codes.ensures.never_falls k from (omega arith))))

pub returns-clause-found : goal.returns-clause-found
returns-clause-found c =
    let region = c.args.corners.now.region in
    let codes = c.args.self.now.codes in
    let shown = c.codes-codes.result.now in
    let is = c.codes-codes.ensures.codes in
    let of =
    of_region region codes _ _ is c.requires.dims c.codes-codes.ensures.never_falls c.codes-codes.ensures.each in
    let at = c.args.walk.now.at in
    let end = c.stretch_end-end.result in
    let place : at + (end - at) ≡ end = omega (arith, c.stretch_end-end.ensures.onwards) in
    inside_fronts region codes at (end - at) (omega (arith, c.stretch_end-end.ensures.within, ap length is))
    (λ k from to. subst (IsInside region) (ap (λ (xs : List ℕ). slice_index xs k) is)
    (c.stretch_end-end.ensures.inside c.codes-codes.ensures.never_falls k from (omega arith)))
    ∙ ap (λ (xs : List ℕ). take (end - at) (drop at xs) ++ codes_inside region (drop (at + (end - at)) codes)) (sym is)
    ∙ ap (λ (n : ℕ). take (end - at) (drop at shown) ++ codes_inside region (drop n codes)) place
    ∙ ap (λ (xs : List ℕ). take (end - at) (drop at shown) ++ xs) c.over_outside.ensures.same
