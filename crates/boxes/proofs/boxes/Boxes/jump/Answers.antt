-- No place is looked at before the lower bound of the next code inside, and none at all where there is no such code.
use Rattle.std.proofs.Common.{◌+◌, ◌<◌, length, slice_index, refl, sym, ap, subst, arith}
use Rattle.zorder.specs.Codes.{code}
use Rattle.zorder.specs.Regions.{IsInside}
use Rattle.bigmin.specs.NextInBox.{IsNextInBox, HasNoNext}
use Rattle.window_search.proofs.CallerLemmas.{IsLowerBound-lb}
use Rattle.boxes.specs.BoxAnswers.{IsLookedAt}
use Rattle.boxes.proofs.LookedLemmas.{of_region, looked_here, none_past, none_left, none_between, looked_at_bound}
use Rattle.boxes.proofs.LookedLemmas.{bound_beyond}
use Rattle.boxes.proofs.boxes.Boxes.jump.Goals as goal

pub returns-then-z-high-clause-skipped : goal.returns-then-z-high-clause-skipped
returns-then-z-high-clause-skipped c =
    let region = c.args.corners.now.region in
    let codes = c.args.self.now.codes in
    let is = c.codes-codes.ensures.codes in
    let of =
    of_region region codes _ _ is c.requires.dims c.codes-codes.ensures.never_falls c.codes-codes.ensures.each in
    let past : code region.d region.high < slice_index codes c.args.at =
    omega (arith, c.if-z-high.true, c.high.ensures, ap (λ xs. slice_index xs c.args.at) is) in
    λ j after before looked.
    none_past region codes of c.args.corners.now.in_range c.args.at past j after
    (omega (arith, before, ap length is)) looked

pub returns-then-inside-clause-due : goal.returns-then-inside-clause-due
returns-then-inside-clause-due c =
    let region = c.args.corners.now.region in
    let codes = c.args.self.now.codes in
    let is = c.codes-codes.ensures.codes in
    let of =
    of_region region codes _ _ is c.requires.dims c.codes-codes.ensures.never_falls c.codes-codes.ensures.each in
    λ within. looked_here region codes of (c.args.at + 1) within
    (subst (IsInside region) (ap (λ xs. slice_index xs (c.args.at + 1)) is) (c.if-inside.ensures.exact.0 refl))

pub returns-in-None-clause-skipped : goal.returns-in-None-clause-skipped
returns-in-None-clause-skipped c =
    let region = c.args.corners.now.region in
    let codes = c.args.self.now.codes in
    let is = c.codes-codes.ensures.codes in
    let of =
    of_region region codes _ _ is c.requires.dims c.codes-codes.ensures.never_falls c.codes-codes.ensures.each in
    let none = subst (HasNoNext region) (ap (λ xs. slice_index xs c.args.at) is) c.in-None.ensures.none in
    λ j after before looked.
    none_left region codes of c.args.at none c.requires.outside j after (omega (arith, before, ap length is)) looked

pub returns-in-Some-clause-onwards : goal.returns-in-Some-clause-onwards
returns-in-Some-clause-onwards c =
    let region = c.args.corners.now.region in
    let codes = c.args.self.now.codes in
    let is = c.codes-codes.ensures.codes in
    let of =
    of_region region codes _ _ is c.requires.dims c.codes-codes.ensures.never_falls c.codes-codes.ensures.each in
    let next = subst
    (λ z. IsNextInBox region z c.in-Some.next) (ap (λ xs. slice_index xs c.args.at) is) c.in-Some.ensures.next in
    omega (
      arith,
      c.lower_bound_past.ensures,
      bound_beyond region codes of c.args.at c.in-Some.next c.requires.here next.above,
    )

pub returns-in-Some-clause-within : goal.returns-in-Some-clause-within
returns-in-Some-clause-within c =
    let codes = c.args.self.now.codes in
    let is = c.codes-codes.ensures.codes in
    let of = of_region
    c.args.corners.now.region
    codes _ _ is c.requires.dims c.codes-codes.ensures.never_falls c.codes-codes.ensures.each in
    omega (arith, c.lower_bound_past.ensures, (IsLowerBound-lb codes c.in-Some.next of.order).within)

pub returns-in-Some-clause-skipped : goal.returns-in-Some-clause-skipped
returns-in-Some-clause-skipped c =
    let region = c.args.corners.now.region in
    let codes = c.args.self.now.codes in
    let is = c.codes-codes.ensures.codes in
    let of =
    of_region region codes _ _ is c.requires.dims c.codes-codes.ensures.never_falls c.codes-codes.ensures.each in
    let next = subst
    (λ z. IsNextInBox region z c.in-Some.next) (ap (λ xs. slice_index xs c.args.at) is) c.in-Some.ensures.next in
    λ j after before looked. none_between region codes of c.args.at c.in-Some.next next c.requires.outside j after
    (omega (arith, before, c.lower_bound_past.ensures)) looked

pub returns-in-Some-clause-due : goal.returns-in-Some-clause-due
returns-in-Some-clause-due c =
    let region = c.args.corners.now.region in
    let codes = c.args.self.now.codes in
    let is = c.codes-codes.ensures.codes in
    let of =
    of_region region codes _ _ is c.requires.dims c.codes-codes.ensures.never_falls c.codes-codes.ensures.each in
    let next = subst
    (λ z. IsNextInBox region z c.in-Some.next) (ap (λ xs. slice_index xs c.args.at) is) c.in-Some.ensures.next in
    λ within. subst (IsLookedAt region codes) (sym c.lower_bound_past.ensures)
    (looked_at_bound region codes of c.in-Some.next next.code next.inside
    (omega (arith, within, c.lower_bound_past.ensures)))
