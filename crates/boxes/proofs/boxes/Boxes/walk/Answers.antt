-- An empty region has no code inside; of another the low corner's code is.
use Rattle.std.proofs.Common.{ℕ, length, drop, sym, ap, ◌∙◌, subst}
use Rattle.zorder.proofs.CallerLemmas.{IsCode-code}
use Rattle.window_search.specs.Searches.{lb}
use Rattle.boxes.specs.BoxAnswers.{codes_inside}
use Rattle.boxes.specs.Walks.{HasWalked}
use Rattle.boxes.proofs.LookedLemmas.{of_region, walk_begins, begins_with_all, walk_of_none, none_of_none}
use Rattle.boxes.proofs.boxes.Boxes.walk.Goals as goal

pub returns-then-is_empty-clause-walked : goal.returns-then-is_empty-clause-walked
returns-then-is_empty-clause-walked c =
    let of = of_region c.args.corners.now.region c.args.self.now.codes
    _ _ c.codes-codes.ensures.codes c.requires.dims c.codes-codes.ensures.never_falls c.codes-codes.ensures.each in
    let place = ap length c.codes-codes.ensures.codes in
    subst (λ (at : ℕ). HasWalked c.args.corners.now.region c.args.self.now.codes at 0)
    (sym place) (walk_of_none c.args.corners.now.region c.args.self.now.codes of c.if-is_empty.ensures.none_inside)

pub returns-then-is_empty-clause-all : goal.returns-then-is_empty-clause-all
returns-then-is_empty-clause-all c =
    let of = of_region c.args.corners.now.region c.args.self.now.codes
    _ _ c.codes-codes.ensures.codes c.requires.dims c.codes-codes.ensures.never_falls c.codes-codes.ensures.each in
    let place = ap length c.codes-codes.ensures.codes in
    ap (λ (at : ℕ). codes_inside c.args.corners.now.region (drop at c.args.self.now.codes)) place
    ∙ none_of_none c.args.corners.now.region c.args.self.now.codes of c.if-is_empty.ensures.none_inside

pub returns-clause-walked : goal.returns-clause-walked
returns-clause-walked c =
    let region = c.args.corners.now.region in
    let of = of_region region c.args.self.now.codes
    _ _ c.codes-codes.ensures.codes c.requires.dims c.codes-codes.ensures.never_falls c.codes-codes.ensures.each in
    let place = c.lower_bound-at.ensures ∙ ap (lb c.args.self.now.codes) c.low.ensures in
    let small = IsCode-code region.d c.args.corners.now.in_range.dimension region.low c.args.corners.now.in_range.low in
    subst (λ (at : ℕ). HasWalked region c.args.self.now.codes at 0) (sym place)
    (walk_begins region c.args.self.now.codes of c.args.corners.now.in_range c.if-is_empty.ensures.low_inside small)

pub returns-clause-all : goal.returns-clause-all
returns-clause-all c =
    let region = c.args.corners.now.region in
    let of = of_region region c.args.self.now.codes
    _ _ c.codes-codes.ensures.codes c.requires.dims c.codes-codes.ensures.never_falls c.codes-codes.ensures.each in
    let place = c.lower_bound-at.ensures ∙ ap (lb c.args.self.now.codes) c.low.ensures in
    ap (λ (at : ℕ). codes_inside region (drop at c.args.self.now.codes)) place
    ∙ begins_with_all region c.args.self.now.codes of c.args.corners.now.in_range
