-- A run that isn't shown refuses all segments, and once each is shown the first start decides.
use Rattle.std.proofs.Common.{◌≡◌, ◌-◌, refl, sym, ap, ◌∙◌, subst, arith}
use Rattle.exact_cross.specs.Points.{points_of}
use Rattle.exact_cross.specs.PointLists.{points_in}
use Rattle.exact_cross.specs.Segments.{starts_of}
use Rattle.exact_cross.specs.Checked.{IsCoverWithin, uncut}
use Rattle.exact_cross.proofs.CallerLemmas.{IsAscending-points_in, run_end-from_shown, IsCoverWithin-from_shown}
use Rattle.cut_witness.proofs.ShownRuns.{AreShown-from_runs, runs-from_shown, run_before}
use Rattle.cut_witness.proofs.slack.Goals as goal

pub returns-then-not-is_shown_run-clause-exact : goal.returns-then-not-is_shown_run-clause-exact
returns-then-not-is_shown_run-clause-exact c =
    let p = points_in c.args.points in (
      λ never. absurd (cc never),
      λ shown. c.if-not-is_shown_run.ensures.exact.1
          (run_before p c.args.eps p.count
          c.loop-i.i c.loop-i.end c.args.segments.now _ c.loop-i-test.true c.loop-i.auto.i c.loop-i.invariant.end
          (runs-from_shown p c.args.eps c.args.segments.now shown)),
    )

-- the segments are shown, once the first of them begins at 0
pub returns-then-end-eq0-clause-exact : goal.returns-then-end-eq0-clause-exact
returns-then-end-eq0-clause-exact c =
    let p = points_in c.args.points in
    let none : c.loop-i.i ≡ 0 = omega arith in (
      λ some. AreShown-from_runs p c.args.eps c.args.segments.now
          (sym (rw none at c.loop-i.invariant.end) ∙ c.if-end-eq0.true) (rw none at c.loop-i.invariant.shown),
      λ shown. refl,
    )

pub returns-then-end-eq0-clause-certified : goal.returns-then-end-eq0-clause-certified
returns-then-end-eq0-clause-certified c =
    let xs = c.args.points.xs.now in
    let ys = c.args.points.ys.now in
    let segments = c.args.segments.now in
    let p = points_of xs ys in
    let none : c.loop-i.i ≡ 0 = omega arith in
    let shown = AreShown-from_runs p c.args.eps segments
    (sym (rw none at c.loop-i.invariant.end) ∙ c.if-end-eq0.true) (rw none at c.loop-i.invariant.shown) in
    let same : uncut segments - 1 ≡ c.saturating_sub.result =
    ap (λ n. n - 1) (sym (rw none at c.loop-i.invariant.uncut)) ∙ sym c.saturating_sub.ensures in
    subst (λ n. IsCoverWithin n p c.args.eps 0 p.count (starts_of segments)) same
    (IsCoverWithin-from_shown p c.args.eps segments (IsAscending-points_in c.args.points) shown)

pub returns-else-end-eq0-clause-exact : goal.returns-else-end-eq0-clause-exact
returns-else-end-eq0-clause-exact c =
    let p = points_in c.args.points in
    let none : c.loop-i.i ≡ 0 = omega arith in (
      λ never. absurd (cc never),
      λ shown. absurd (c.if-end-eq0.false
          ((rw none at c.loop-i.invariant.end) ∙ run_end-from_shown p c.args.eps c.args.segments.now shown)),
    )
