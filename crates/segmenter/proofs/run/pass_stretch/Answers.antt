-- The last place that some line fits is taken in, and the one after it, if any, is refused.
use Rattle.std.proofs.Common.{◌≡◌, ℕ, ◌+◌, inl, inr, subst, arith}
use Rattle.std.proofs.lemmas.Bool.{cases_lt, OnTrue_at, OnFalse_at}
use Rattle.exact_cross.specs.PointLists.{points_in}
use Rattle.exact_cross.specs.Lines.{SomeLineFits}
use Rattle.hulls.specs.Hulls.{bound_of}
use Rattle.segmenter.proofs.Runs.{IsNext-place}
use Rattle.segmenter.proofs.Stretched.{IsAhead-in_stretch, IsInStretch-part}
use Rattle.segmenter.proofs.run.pass_stretch.Goals as goal

pub fits-requires : goal.fits-requires
fits-requires g c =
    let r = c.requires.stretch in
    let hulls = c.args.hulls.now in (
      points_in c.args.points,
      bound_of hulls,
      r.0,
      c.args.from + 1,
      IsAhead-in_stretch hulls c.args.points
          (bound_of hulls) r.0 c.args.from c.args.end c.args.end (omega arith) (omega arith) (omega arith) r.1,
    )

pub extend-requires-clause-stretch : goal.extend-requires-clause-stretch
extend-requires-clause-stretch g c =
    let r = c.requires.stretch in
    let hulls = c.args.hulls.now in (
      r.0,
      r.1,
      OnTrue_at c.if-fits.true c.fits.ensures.fits (points_in c.args.points) (bound_of hulls) r.0 (c.args.from + 1)
          (IsAhead-in_stretch hulls c.args.points
          (bound_of hulls) r.0 c.args.from c.args.end c.args.end (omega arith) (omega arith) (omega arith) r.1),
      r.2,
    )

pub returns-then-fits-clause-stands : goal.returns-then-fits-clause-stands
returns-then-fits-clause-stands g c = λ s is.
    let hulls = c.args.hulls.now in
    c.extend.ensures.stands s is
    (OnTrue_at c.if-fits.true c.fits.ensures.fits (points_in c.args.points) (bound_of hulls) s (c.args.from + 1)
    (IsAhead-in_stretch hulls c.args.points
    (bound_of hulls) s c.args.from c.args.end c.args.end (omega arith) (omega arith) (omega arith) is))

pub last_fitting-last-requires-clause-refused : goal.last_fitting-last-requires-clause-refused
last_fitting-last-requires-clause-refused g c = λ s is.
    let hulls = c.args.hulls.now in
    OnFalse_at c.if-fits.false c.fits.ensures.fits_not (points_in c.args.points) (bound_of hulls) s (c.args.from + 1)
    (IsAhead-in_stretch hulls c.args.points
    (bound_of hulls) s c.args.from c.args.end c.args.end (omega arith) (omega arith) (omega arith) is)

pub extend-requires-2-clause-stretch : goal.extend-requires-2-clause-stretch
extend-requires-2-clause-stretch g c =
    let r = c.requires.stretch in
    let hulls = c.args.hulls.now in
    let last = c.last_fitting-last in (
      r.0,
      IsInStretch-part hulls (points_in c.args.points)
          (bound_of hulls) r.0 c.args.from c.args.end last.result (omega (arith, last.ensures.within)) r.1,
      last.ensures.fits r.0 r.1,
      omega (arith, r.2, last.ensures.within),
    )

pub offer-requires : goal.offer-requires
offer-requires g c =
    let r = c.requires.stretch in
    let hulls = c.args.hulls.now in
    let last = c.last_fitting-last in
    let stands = c.extend-2.ensures.stands r.0
    (IsInStretch-part hulls (points_in c.args.points)
    (bound_of hulls) r.0 c.args.from c.args.end last.result (omega (arith, last.ensures.within)) r.1)
    (last.ensures.fits r.0 r.1) in (
      points_in c.args.points,
      bound_of hulls,
      r.0,
      last.result + 1,
      IsNext-place c.extend-2.new.hulls c.args.points
          (bound_of hulls) r.0 (last.result + 1) stands (omega (arith, last.ensures.within)),
      omega arith,
      omega (arith, r.2, last.ensures.within, c.extend-2.ensures.room),
    )

pub returns-in-Cut-clause-stands : goal.returns-in-Cut-clause-stands
returns-in-Cut-clause-stands g c = λ s is.
    let hulls = c.args.hulls.now in
    let last = c.last_fitting-last in
    rw c.in-Cut.ensures.stands
    (c.extend-2.ensures.stands s
    (IsInStretch-part hulls (points_in c.args.points)
    (bound_of hulls) s c.args.from c.args.end last.result (omega (arith, last.ensures.within)) is)
    (last.ensures.fits s is))

pub returns-in-Cut-clause-cut : goal.returns-in-Cut-clause-cut
returns-in-Cut-clause-cut g c = λ s is.
    let hulls = c.args.hulls.now in
    let last = c.last_fitting-last in
    let stands = c.extend-2.ensures.stands s
    (IsInStretch-part hulls (points_in c.args.points)
    (bound_of hulls) s c.args.from c.args.end last.result (omega (arith, last.ensures.within)) is)
    (last.ensures.fits s is) in
    let next = IsNext-place c.extend-2.new.hulls c.args.points
    (bound_of hulls) s (last.result + 1) stands (omega (arith, last.ensures.within)) in
    record {
      refused = c.in-Cut.ensures.fits (points_in c.args.points) (bound_of hulls) s (last.result + 1) next;
      witness = c.in-Cut.ensures.witness (points_in c.args.points) (bound_of hulls) s (last.result + 1) next;
    }

pub returns-in-Cut-clause-cost : goal.returns-in-Cut-clause-cost
returns-in-Cut-clause-cost g c =
    let last = c.last_fitting-last in
    let tests = c.fits.ensures.cost in
    let cut = c.in-Cut.ensures.cost in
    elim (cases_lt c.args.from last.result) [
      | inl more ↦ omega (arith, more, tests, cut, last.ensures.cost, c.extend-2.ensures.cost)
      | inr none ↦ let same : c.args.from ≡ last.result = omega (arith, none, last.ensures.onward) in
          omega (arith, same, tests, cut, last.ensures.cost, c.extend-2.ensures.none same)
    ]

pub returns-clause-stands : goal.returns-clause-stands
returns-clause-stands g c = λ s is.
    let hulls = c.args.hulls.now in
    let last = c.last_fitting-last in
    let stands = c.extend-2.ensures.stands s
    (IsInStretch-part hulls (points_in c.args.points)
    (bound_of hulls) s c.args.from c.args.end last.result (omega (arith, last.ensures.within)) is)
    (last.ensures.fits s is) in
    c.in_default.ensures.stands (points_in c.args.points) (bound_of hulls) s (last.result + 1)
    (IsNext-place c.extend-2.new.hulls c.args.points
    (bound_of hulls) s (last.result + 1) stands (omega (arith, last.ensures.within)))

pub returns-clause-cost : goal.returns-clause-cost
returns-clause-cost g c =
    let hulls = c.args.hulls.now in
    let last = c.last_fitting-last in
    let r = c.requires.stretch in
    let stands = c.extend-2.ensures.stands r.0
    (IsInStretch-part hulls (points_in c.args.points)
    (bound_of hulls) r.0 c.args.from c.args.end last.result (omega (arith, last.ensures.within)) r.1)
    (last.ensures.fits r.0 r.1) in
    let fits = c.in_default.ensures.fits (points_in c.args.points) (bound_of hulls) r.0 (last.result + 1)
    (IsNext-place c.extend-2.new.hulls c.args.points
    (bound_of hulls) r.0 (last.result + 1) stands (omega (arith, last.ensures.within))) in
    let behind : last.result + 1 + 1 ≡ last.result + 2 = omega arith in
    absurd (last.ensures.refused r.0 r.1
    (subst (λ (n : ℕ). SomeLineFits (points_in c.args.points) (bound_of hulls) r.0 n) behind fits))
