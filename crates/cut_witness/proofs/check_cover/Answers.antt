-- Segments are checked where they are shown and all but the last have their cuts.
use Rattle.std.proofs.Common.{◌≤◌, arith, refl}
use Rattle.std.proofs.lemmas.Bool.{eqb-true, eq-eqb}
use Rattle.exact_cross.specs.Points.{points_of}
use Rattle.exact_cross.specs.PointLists.{points_in}
use Rattle.exact_cross.specs.Checked.{uncut}
use Rattle.exact_cross.proofs.CallerLemmas.{IsAscending-points_in, AreShown-from_checked}
use Rattle.exact_cross.proofs.CallerLemmas.{AreChecked-from_shown, IsLeastCover-from_checked}
use Rattle.cut_witness.proofs.check_cover.Goals as goal

pub returns-in-Some-clause-exact : goal.returns-in-Some-clause-exact
returns-in-Some-clause-exact c =
    let p = points_in c.args.points in
    let segments = c.args.segments.now in (
      λ none. AreChecked-from_shown p c.args.eps segments
          (c.in-Some.ensures.exact.0 refl) (omega (arith, c.in-Some.ensures.count, eqb-true _ _ none)),
      λ checked.
          eq-eqb _ _ (omega (arith, c.in-Some.ensures.count, (AreShown-from_checked p c.args.eps segments checked).1)),
    )

pub returns-in-Some-clause-certified : goal.returns-in-Some-clause-certified
returns-in-Some-clause-certified c = λ none.
    let xs = c.args.points.xs.now in
    let ys = c.args.points.ys.now in
    let few : uncut c.args.segments.now ≤ 1 = omega (arith, c.in-Some.ensures.count, eqb-true _ _ none) in
    IsLeastCover-from_checked (points_of xs ys) c.args.eps c.args.segments.now (IsAscending-points_in c.args.points)
    (AreChecked-from_shown (points_of xs ys) c.args.eps c.args.segments.now (c.in-Some.ensures.exact.0 refl) few)

pub returns-in-None-clause-exact : goal.returns-in-None-clause-exact
returns-in-None-clause-exact c = (
  λ never. absurd (cc never),
  λ checked. c.in-None.ensures.exact.1
      (AreShown-from_checked (points_in c.args.points) c.args.eps c.args.segments.now checked).0,
)
