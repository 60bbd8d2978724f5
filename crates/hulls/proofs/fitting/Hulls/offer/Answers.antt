-- A point over the steep line is a cut, and so is one that lies over the
-- flat line upside down; a point that is neither is taken in by both hulls.
use Rattle.std.proofs.Common.{◌+◌, arith}
use Rattle.std.proofs.lemmas.Bool.{OnTrue_at, OnFalse_at}
use Rattle.hulls.specs.Hulls.{mirrored}
use Rattle.hulls.proofs.NewPoint.{IsAhead-next, IsNextVertex-steep, IsNextVertex-flat, no_line-over}
use Rattle.hulls.proofs.NewPoint.{no_line-under, IsCutOf-over, IsCutOf-under, fits-longer}
use Rattle.hulls.proofs.fitting.Hulls.offer.Goals as goal

pub is_over-requires : goal.is_over-requires
is_over-requires g c =
    let r = c.requires in
    let hulls = c.args.self.now in
    let next = r.4 in (
      r.0,
      r.1,
      r.2,
      r.3,
      r.3,
      omega arith,
      next.stands.steep,
      IsNextVertex-steep hulls r.0 r.1 r.2 r.3 r.3 c.args.x c.args.y (hulls.last + 1) (omega arith) next.stands.last
          (IsAhead-next hulls r.0 r.1 r.2 r.3 c.args.x c.args.y next),
    )

pub is_over-requires-2 : goal.is_over-requires-2
is_over-requires-2 g c =
    let r = c.requires in
    let hulls = c.args.self.now in
    let next = r.4 in (
      mirrored r.0,
      r.1,
      r.2,
      r.3,
      r.3,
      omega arith,
      next.stands.flat,
      IsNextVertex-flat hulls r.0 r.1 r.2 r.3 r.3 c.args.x c.args.y (hulls.last + 1) next.stands.last
          (IsAhead-next hulls r.0 r.1 r.2 r.3 c.args.x c.args.y next),
    )

pub returns-then-is_over-clause-fits : goal.returns-then-is_over-clause-fits
returns-then-is_over-clause-fits g c = λ p eps s e next.
    let hulls = c.args.self.now in
    let ahead = IsAhead-next hulls p eps s e c.args.x c.args.y next in
    no_line-over hulls p eps s e e c.args.x c.args.y (omega arith) ahead
    (OnTrue_at c.if-is_over.true c.is_over.ensures.over p eps s e e (omega arith) next.stands.steep
    (IsNextVertex-steep hulls p eps s e e c.args.x c.args.y (hulls.last + 1) (omega arith) next.stands.last ahead))

pub returns-then-is_over-clause-witness : goal.returns-then-is_over-clause-witness
returns-then-is_over-clause-witness g c = λ p eps s e next.
    let hulls = c.args.self.now in
    let ahead = IsAhead-next hulls p eps s e c.args.x c.args.y next in
    IsCutOf-over hulls p eps s e c.args.x c.args.y
    (hulls.last + 1) c.cut_before.result (omega arith) next.stands.last next
    (OnTrue_at c.if-is_over.true c.is_over.ensures.over p eps s e e (omega arith) next.stands.steep
    (IsNextVertex-steep hulls p eps s e e c.args.x c.args.y (hulls.last + 1) (omega arith) next.stands.last ahead))
    c.cut_before.ensures

pub returns-then-is_over-2-clause-fits : goal.returns-then-is_over-2-clause-fits
returns-then-is_over-2-clause-fits g c = λ p eps s e next.
    let hulls = c.args.self.now in
    let ahead = IsAhead-next hulls p eps s e c.args.x c.args.y next in
    no_line-under hulls p eps s e e c.args.x c.args.y (omega arith) ahead
    (OnTrue_at c.if-is_over-2.true c.is_over-2.ensures.over (mirrored p) eps s e e (omega arith) next.stands.flat
    (IsNextVertex-flat hulls p eps s e e c.args.x c.args.y (hulls.last + 1) next.stands.last ahead))

pub returns-then-is_over-2-clause-witness : goal.returns-then-is_over-2-clause-witness
returns-then-is_over-2-clause-witness g c = λ p eps s e next.
    let hulls = c.args.self.now in
    let ahead = IsAhead-next hulls p eps s e c.args.x c.args.y next in
    IsCutOf-under hulls p eps s e c.args.x c.args.y
    (hulls.last + 1) c.cut_before-then-is_over-2.result (omega arith) next.stands.last next
    (OnTrue_at c.if-is_over-2.true c.is_over-2.ensures.over (mirrored p) eps s e e (omega arith) next.stands.flat
    (IsNextVertex-flat hulls p eps s e e c.args.x c.args.y (hulls.last + 1) next.stands.last ahead))
    c.cut_before-then-is_over-2.ensures

pub extend_to-requires-clause-ahead : goal.extend_to-requires-clause-ahead
extend_to-requires-clause-ahead g c =
    let hulls = c.args.self.now in
    let r = c.requires in
    let next = r.4 in
    let ahead = IsAhead-next hulls r.0 r.1 r.2 r.3 c.args.x c.args.y next in
    let fits = fits-longer hulls r.0 r.1 r.2 r.3 r.3 c.args.x c.args.y (omega arith) ahead
    (OnFalse_at c.if-is_over.false c.is_over.ensures.not_over r.0 r.1 r.2 r.3 r.3 (omega arith) next.stands.steep
    (IsNextVertex-steep hulls r.0 r.1 r.2 r.3 r.3 c.args.x c.args.y
    (hulls.last + 1) (omega arith) next.stands.last ahead))
    (OnFalse_at c.if-is_over-2.false c.is_over-2.ensures.not_over
    (mirrored r.0) r.1 r.2 r.3 r.3 (omega arith) next.stands.flat
    (IsNextVertex-flat hulls r.0 r.1 r.2 r.3 r.3 c.args.x c.args.y (hulls.last + 1) next.stands.last ahead)) in
    (r.0, r.1, r.2, r.3, rw next.stands.last ahead, rw next.stands.last fits, r.6)

pub returns-clause-fits : goal.returns-clause-fits
returns-clause-fits g c = λ p eps s e next.
    let hulls = c.args.self.now in
    let ahead = IsAhead-next hulls p eps s e c.args.x c.args.y next in
    fits-longer hulls p eps s e e c.args.x c.args.y (omega arith) ahead
    (OnFalse_at c.if-is_over.false c.is_over.ensures.not_over p eps s e e (omega arith) next.stands.steep
    (IsNextVertex-steep hulls p eps s e e c.args.x c.args.y (hulls.last + 1) (omega arith) next.stands.last ahead))
    (OnFalse_at c.if-is_over-2.false c.is_over-2.ensures.not_over (mirrored p) eps s e e (omega arith) next.stands.flat
    (IsNextVertex-flat hulls p eps s e e c.args.x c.args.y (hulls.last + 1) next.stands.last ahead))

pub returns-clause-stands : goal.returns-clause-stands
returns-clause-stands g c = λ p eps s e next.
    let hulls = c.args.self.now in
    let ahead = IsAhead-next hulls p eps s e c.args.x c.args.y next in
    let fits = fits-longer hulls p eps s e e c.args.x c.args.y (omega arith) ahead
    (OnFalse_at c.if-is_over.false c.is_over.ensures.not_over p eps s e e (omega arith) next.stands.steep
    (IsNextVertex-steep hulls p eps s e e c.args.x c.args.y (hulls.last + 1) (omega arith) next.stands.last ahead))
    (OnFalse_at c.if-is_over-2.false c.is_over-2.ensures.not_over (mirrored p) eps s e e (omega arith) next.stands.flat
    (IsNextVertex-flat hulls p eps s e e c.args.x c.args.y (hulls.last + 1) next.stands.last ahead)) in
    rw next.stands.last at (c.extend_to.ensures.stands p eps s e (rw next.stands.last ahead) (rw next.stands.last fits))
