-- What is between the two comes nearer, by a test each.
use Rattle.std.proofs.Common.{◌≡◌, ◌⊎◌, ℕ, ◌+◌, ◌*◌, ◌-◌, ◌<◌, ◌≤◌, inl, inr, subst, arith}
use Rattle.std.proofs.lemmas.Bool.{OnTrue_at, OnFalse_at}
use Rattle.exact_cross.specs.PointLists.{points_in}
use Rattle.exact_cross.specs.Lines.{SomeLineFits}
use Rattle.hulls.specs.Hulls.{bound_of}
use Rattle.segmenter.proofs.Stretched.{IsAhead-in_stretch}
use Rattle.segmenter.proofs.run.last_fitting.Goals as goal

-- the steps where the tested place fits, and where it doesn't:
-- `o` on from where it began, `g` apart, `k` on to the place
cost_on : (steps new begun from fitting refused probe : ℕ) →
    from ≤ fitting → fitting < probe → probe < refused → new ≤ steps + 2 →
    (steps + 2 * from ≤ begun + 2 * fitting) ⊎ (steps + 2 * (refused - fitting) + 4 * from ≤ begun + 4 * fitting + 4) →
    (new + 2 * from ≤ begun + 2 * probe) ⊎ (new + 2 * (refused - probe) + 4 * from ≤ begun + 4 * probe + 4)
cost_on steps new begun from fitting refused probe onward further before step (inl doubled) = inl (omega arith)
cost_on steps new begun from fitting refused probe onward further before step (inr halved) = inr (omega arith)

cost_back : (steps new begun from fitting refused probe : ℕ) →
    from ≤ fitting → fitting < probe → probe < refused → probe ≤ fitting + (fitting - from + 1) → new ≤ steps + 2 →
    (steps + 2 * from ≤ begun + 2 * fitting) ⊎ (steps + 2 * (refused - fitting) + 4 * from ≤ begun + 4 * fitting + 4) →
    (new + 2 * from ≤ begun + 2 * fitting) ⊎ (new + 2 * (probe - fitting) + 4 * from ≤ begun + 4 * fitting + 4)
cost_back steps new begun from fitting refused probe onward further before doubles step (inl doubled) =
    inr (omega arith)
cost_back steps new begun from fitting refused probe onward further before doubles step (inr halved) = inr (omega arith)

cost_end : (steps begun from fitting refused : ℕ) → from ≤ fitting → fitting + 1 ≡ refused →
    (steps + 2 * from ≤ begun + 2 * fitting) ⊎ (steps + 2 * (refused - fitting) + 4 * from ≤ begun + 4 * fitting + 4) →
    steps + 4 * from ≤ begun + 4 * fitting + 2
cost_end steps begun from fitting refused onward beside (inl doubled) = omega arith
cost_end steps begun from fitting refused onward beside (inr halved) = omega arith

pub fits-requires : goal.fits-requires
fits-requires g c =
    let r = c.requires.stretch in
    let hulls = c.args.hulls.now in
    let probe = c.loop-fitting.fitting + c.min.result in (
      points_in c.args.points,
      bound_of hulls,
      r.0,
      c.args.from + 1,
      IsAhead-in_stretch hulls c.args.points
          (bound_of hulls) r.0 c.args.from c.args.end probe (omega arith) (omega arith) (omega arith) r.1,
    )

pub loop-fitting-preserved-then-fits : goal.loop-fitting-preserved-then-fits
loop-fitting-preserved-then-fits g c =
    let so_far = c.loop-fitting.invariant in
    let hulls = c.args.hulls.now in
    let probe = c.loop-fitting.fitting + c.min.result in
    record {
      onward = omega arith;
      apart = omega arith;
      within = so_far.within;
      fits = λ s is.
          OnTrue_at c.if-fits.true c.fits.ensures.fits (points_in c.args.points) (bound_of hulls) s (c.args.from + 1)
          (IsAhead-in_stretch hulls c.args.points
          (bound_of hulls) s c.args.from c.args.end probe (omega arith) (omega arith) (omega arith) is);
      fits_not = so_far.fits_not;
      cost = cost_on c.loop-fitting.steps c.fits.new.steps c.args.steps.now c.args.from c.loop-fitting.fitting
          c.loop-fitting.refused probe (omega arith) (omega arith) (omega arith) c.fits.ensures.cost so_far.cost;
    }

pub loop-fitting-preserved : goal.loop-fitting-preserved
loop-fitting-preserved g c =
    let so_far = c.loop-fitting.invariant in
    let hulls = c.args.hulls.now in
    let probe = c.loop-fitting.fitting + c.min.result in
    record {
      onward = so_far.onward;
      apart = omega arith;
      within = omega arith;
      fits = so_far.fits;
      fits_not = λ s is. OnFalse_at c.if-fits.false c.fits.ensures.fits_not
          (points_in c.args.points) (bound_of hulls) s (c.args.from + 1)
          (IsAhead-in_stretch hulls c.args.points
          (bound_of hulls) s c.args.from c.args.end probe (omega arith) (omega arith) (omega arith) is);
      cost = cost_back c.loop-fitting.steps
          c.fits.new.steps c.args.steps.now c.args.from c.loop-fitting.fitting c.loop-fitting.refused probe
          (omega arith) (omega arith) (omega arith) (omega arith) c.fits.ensures.cost so_far.cost;
    }

pub returns-clause-refused : goal.returns-clause-refused
returns-clause-refused g c = λ s is.
    let beside : c.loop-fitting.refused + 1 ≡ c.loop-fitting.fitting + 2 = omega arith in
    subst (λ (n : ℕ). SomeLineFits (points_in c.args.points) (bound_of c.args.hulls.now) s n → ⊥) beside
    (c.loop-fitting.invariant.fits_not s is)
