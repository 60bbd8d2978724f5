-- The last place lies ahead of the run.
use Rattle.std.proofs.Common.{◌≡◌, ℕ, ◌+◌, subst, arith}
use Rattle.exact_cross.specs.PointLists.{points_in}
use Rattle.hulls.specs.Hulls.{StandsFor, bound_of}
use Rattle.segmenter.proofs.Stretched.{IsAhead-in_stretch}
use Rattle.segmenter.proofs.run.extend.Goals as goal

pub extend_to-requires-clause-ahead : goal.extend_to-requires-clause-ahead
extend_to-requires-clause-ahead g c =
    let r = c.requires.stretch in
    let hulls = c.args.hulls.now in (
      points_in c.args.points,
      bound_of hulls,
      r.0,
      c.args.from + 1,
      IsAhead-in_stretch hulls c.args.points
          (bound_of hulls) r.0 c.args.from c.args.last c.args.last (omega arith) (omega arith) (omega arith) r.1,
      r.2,
      omega (arith, r.3),
    )

pub returns-then-from-last-clause-stands : goal.returns-then-from-last-clause-stands
returns-then-from-last-clause-stands g c = λ s is fits.
    let hulls = c.args.hulls.now in
    c.extend_to.ensures.stands (points_in c.args.points) (bound_of hulls) s (c.args.from + 1)
    (IsAhead-in_stretch hulls c.args.points
    (bound_of hulls) s c.args.from c.args.last c.args.last (omega arith) (omega arith) (omega arith) is) fits

pub returns-else-from-last-clause-stands : goal.returns-else-from-last-clause-stands
returns-else-from-last-clause-stands g c = λ s is fits.
    let same : c.args.from ≡ c.args.last = omega arith in
    subst (λ (n : ℕ). StandsFor c.args.hulls.now (points_in c.args.points) (bound_of c.args.hulls.now) s (n + 1))
    same is.stands
