-- Both hulls take in the point.
use Rattle.std.proofs.Common.{◌≡◌, ◌+◌, ◌*◌, ◌<◌, ℕ, ap, subst, arith, refl}
use Rattle.hulls.specs.Hull.{IsHullUpTo}
use Rattle.hulls.specs.declared.hull.Hull.{Hull}
use Rattle.hulls.specs.Hulls.{mirrored}
use Rattle.hulls.proofs.NewPoint.{IsNextVertex-steep, IsNextVertex-flat, under-steep, under-flat, IsFittable-steep}
use Rattle.hulls.proofs.NewPoint.{IsFittable-flat, IsPassed-steep, IsPassed-flat, AreSpanned-steep, AreSpanned-flat}
use Rattle.hulls.proofs.NewPoint.{AreShadowed-steep, AreShadowed-flat, OnFalse-either, last_of-same, StandsFor-longer}
use Rattle.hulls.proofs.fitting.Hulls.extend_to.Goals as goal

pub turn_to-falls-requires : goal.turn_to-falls-requires
turn_to-falls-requires g c =
    let r = c.requires.ahead in
    let ahead = r.4 in
    let place = c.args.place in
    let vertex =
    IsNextVertex-steep c.args.self.now r.0 r.1 r.2 r.3 place c.args.x c.args.y place (omega arith) refl ahead in (
      r.0,
      r.1,
      r.2,
      r.3,
      place,
      ahead.order,
      ahead.stands.steep,
      vertex,
      ap (λ (t : ℕ). 2 * t) ahead.stands.bound,
      ahead.stands.bounded,
    )

pub turn_to-rises-requires : goal.turn_to-rises-requires
turn_to-rises-requires g c =
    let r = c.requires.ahead in
    let ahead = r.4 in
    let place = c.args.place in
    let vertex = IsNextVertex-flat c.args.self.now r.0 r.1 r.2 r.3 place c.args.x c.args.y place refl ahead in (
      mirrored r.0,
      r.1,
      r.2,
      r.3,
      place,
      ahead.order,
      ahead.stands.flat,
      vertex,
      ap (λ (t : ℕ). 2 * t) ahead.stands.bound,
      ahead.stands.bounded,
    )

pub take_in-requires-clause-next : goal.take_in-requires-clause-next
take_in-requires-clause-next g c =
    let hulls = c.args.self.now in
    let r = c.requires.ahead in
    let ahead = r.4 in
    let fits = r.5 in
    let x = c.args.x in
    let y = c.args.y in
    let m = c.args.place in
    let point = IsNextVertex-steep hulls r.0 r.1 r.2 r.3 m x y m (omega arith) refl ahead in (
      r.0,
      r.1,
      r.2,
      r.3,
      m,
      ahead.order,
      c.turn_to-falls.ensures.pair r.0 r.1 r.2 r.3 m ahead.stands.steep
          (IsPassed-steep hulls r.0 r.1 r.2 r.3 m x y ahead) point
          (ap (λ (t : ℕ). 2 * t) ahead.stands.bound) ahead.stands.bounded
          (IsFittable-steep hulls r.0 r.1 r.2 r.3 m x y ahead fits)
          (under-steep hulls r.0 r.1 r.2 r.3 m x y (omega arith) ahead fits),
      point,
    )

pub take_in-requires-2-clause-next : goal.take_in-requires-2-clause-next
take_in-requires-2-clause-next g c =
    let hulls = c.args.self.now in
    let r = c.requires.ahead in
    let ahead = r.4 in
    let fits = r.5 in
    let x = c.args.x in
    let y = c.args.y in
    let m = c.args.place in
    let turned = IsNextVertex-flat hulls r.0 r.1 r.2 r.3 m x y m refl ahead in (
      mirrored r.0,
      r.1,
      r.2,
      r.3,
      m,
      ahead.order,
      c.turn_to-rises.ensures.pair (mirrored r.0) r.1 r.2 r.3 m ahead.stands.flat
          (IsPassed-flat hulls r.0 r.1 r.2 r.3 m x y (omega arith) ahead) turned
          (ap (λ (t : ℕ). 2 * t) ahead.stands.bound) ahead.stands.bounded
          (IsFittable-flat hulls r.0 r.1 r.2 r.3 m x y (omega arith) ahead fits)
          (under-flat hulls r.0 r.1 r.2 r.3 m x y (omega arith) ahead fits),
      turned,
    )

pub returns-clause-stands : goal.returns-clause-stands
returns-clause-stands g c = λ p eps s e ahead fits.
    let hulls = c.args.self.now in
    let x = c.args.x in
    let y = c.args.y in
    let m = c.args.place in
    let point = IsNextVertex-steep hulls p eps s e m x y m (omega arith) refl ahead in
    let turned = IsNextVertex-flat hulls p eps s e m x y m refl ahead in
    let lift : 2 * hulls.eps ≡ 2 * eps = ap (λ (t : ℕ). 2 * t) ahead.stands.bound in
    let ends = c.requires.end in
    let further : e < m → hulls.last + 1 < m = λ more. omega (arith, more, ahead.stands.last) in
    let steep = c.turn_to-falls.ensures.pair p eps s e m ahead.stands.steep
    (IsPassed-steep hulls p eps s e m x y ahead) point lift ahead.stands.bounded
    (IsFittable-steep hulls p eps s e m x y ahead fits) (under-steep hulls p eps s e m x y (omega arith) ahead fits) in
    let flat = c.turn_to-rises.ensures.pair (mirrored p) eps s e m ahead.stands.flat
    (IsPassed-flat hulls p eps s e m x y (omega arith) ahead) turned lift ahead.stands.bounded
    (IsFittable-flat hulls p eps s e m x y (omega arith) ahead fits)
    (under-flat hulls p eps s e m x y (omega arith) ahead fits) in
    let spanned = AreSpanned-steep hulls p eps s e m x y c.turn_to-falls.new.self ahead
    (λ more. last_of-same c.turn_to-falls.new.self hulls.steep hulls.last c.turn_to-falls.ensures.vertices
    (ends (further more)).steep) in
    let spanned_turned = AreSpanned-flat hulls p eps s e m x y c.turn_to-rises.new.self (omega arith) ahead
    (λ more. last_of-same c.turn_to-rises.new.self hulls.flat hulls.last c.turn_to-rises.ensures.vertices
    (ends (further more)).flat) in
    let shadows = OnFalse-either c.turn_to-rises.result c.args.stays
    (λ (same : c.turn_to-rises.new.self ≡ hulls.flat). AreShadowed-steep hulls p eps s e m x y
    (omega arith) ahead (subst (λ (hull : Hull). IsHullUpTo (mirrored p) eps s e (m + 1) hull) same flat))
    c.turn_to-rises.ensures.stays in
    let shadows_turned = OnFalse-either c.turn_to-falls.result c.args.stays
    (λ (same : c.turn_to-falls.new.self ≡ hulls.steep). AreShadowed-flat hulls p eps s e m x y
    (omega arith) ahead (subst (λ (hull : Hull). IsHullUpTo p eps s e (m + 1) hull) same steep))
    c.turn_to-falls.ensures.stays in
    StandsFor-longer hulls
    (record { steep = c.take_in.new.self; flat = c.take_in-2.new.self; eps = hulls.eps; last = m }) p eps s e m x y
    (omega arith) ahead fits
    (c.take_in.ensures.hull p eps s e m ahead.order steep point spanned shadows)
    (c.take_in-2.ensures.hull (mirrored p) eps s e m ahead.order flat turned spanned_turned shadows_turned) refl refl
