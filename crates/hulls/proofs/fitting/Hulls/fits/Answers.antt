-- The tests against the two lines say whether some line fits the run with the point.
use Rattle.std.proofs.Common.{refl, arith}
use Rattle.std.proofs.lemmas.Bool.{OnTrue_at, OnFalse_at}
use Rattle.hulls.specs.Hulls.{mirrored}
use Rattle.hulls.proofs.NewPoint.{IsNextVertex-steep, IsNextVertex-flat, no_line-over, no_line-under, fits-longer}
use Rattle.hulls.proofs.fitting.Hulls.fits.Goals as goal

pub is_over-requires : goal.is_over-requires
is_over-requires g c =
    let r = c.requires in
    let ahead = r.4 in (
      r.0,
      r.1,
      r.2,
      r.3,
      c.args.place,
      ahead.order,
      ahead.stands.steep,
      IsNextVertex-steep
          c.args.self.now r.0 r.1 r.2 r.3 c.args.place c.args.x c.args.y c.args.place (omega arith) refl ahead,
    )

pub is_over-requires-2 : goal.is_over-requires-2
is_over-requires-2 g c =
    let r = c.requires in
    let ahead = r.4 in (
      mirrored r.0,
      r.1,
      r.2,
      r.3,
      c.args.place,
      ahead.order,
      ahead.stands.flat,
      IsNextVertex-flat c.args.self.now r.0 r.1 r.2 r.3 c.args.place c.args.x c.args.y c.args.place refl ahead,
    )

pub returns-then-is_over-clause-fits_not : goal.returns-then-is_over-clause-fits_not
returns-then-is_over-clause-fits_not g c = λ p eps s e ahead.
    let hulls = c.args.self.now in
    no_line-over hulls p eps s e c.args.place c.args.x c.args.y (omega arith) ahead
    (OnTrue_at c.if-is_over.true c.is_over.ensures.over p eps s e c.args.place ahead.order ahead.stands.steep
    (IsNextVertex-steep hulls p eps s e c.args.place c.args.x c.args.y c.args.place (omega arith) refl ahead))

pub returns-then-is_over-2-clause-fits_not : goal.returns-then-is_over-2-clause-fits_not
returns-then-is_over-2-clause-fits_not g c = λ p eps s e ahead.
    let hulls = c.args.self.now in
    no_line-under hulls p eps s e c.args.place c.args.x c.args.y (omega arith) ahead
    (OnTrue_at c.if-is_over-2.true c.is_over-2.ensures.over
    (mirrored p) eps s e c.args.place ahead.order ahead.stands.flat
    (IsNextVertex-flat hulls p eps s e c.args.place c.args.x c.args.y c.args.place refl ahead))

pub returns-clause-fits : goal.returns-clause-fits
returns-clause-fits g c = λ p eps s e ahead.
    let hulls = c.args.self.now in
    fits-longer hulls p eps s e c.args.place c.args.x c.args.y (omega arith) ahead
    (OnFalse_at c.if-is_over.false c.is_over.ensures.not_over p eps s e c.args.place ahead.order ahead.stands.steep
    (IsNextVertex-steep hulls p eps s e c.args.place c.args.x c.args.y c.args.place (omega arith) refl ahead))
    (OnFalse_at c.if-is_over-2.false c.is_over-2.ensures.not_over
    (mirrored p) eps s e c.args.place ahead.order ahead.stands.flat
    (IsNextVertex-flat hulls p eps s e c.args.place c.args.x c.args.y c.args.place refl ahead))
