-- One place more is at the same step.
use Rattle.std.proofs.Common.{◌≡◌, ℕ, ◌+◌, ◌*◌, ◌-◌, ◌<◌, ◌≤◌, inl, inr, ap, slice_index, arith}
use Rattle.std.proofs.lemmas.Bool.{cases_lt}
use Rattle.exact_cross.specs.PointLists.{points_in}
use Rattle.exact_cross.proofs.CallerLemmas.{IsAscending-points_in}
use Rattle.segmenter.proofs.Stretched.{AreEven-two}
use Rattle.segmenter.proofs.run.stretch_end.Goals as goal

-- what holds up to `end` at this step holds up to the next place
one_more : (at : ℕ → ℕ) (from end step : ℕ) →
    from < end → ((k : ℕ) → from ≤ k → k ≤ end → at k ≡ at from + (k - from) * step) → at (end + 1) ≡ at end + step →
    (k : ℕ) → from ≤ k → k ≤ end + 1 → at k ≡ at from + (k - from) * step
one_more at from end step some so_far next k low high = elim (cases_lt k (end + 1)) [
  | inl before ↦ so_far k low (omega arith)
  | inr here ↦
      let same : k ≡ end + 1 = omega arith in
      let longer : k - from ≡ (end - from) + 1 = omega arith in
      rw longer (omega (arith, ap at same, next, so_far end (omega arith) (omega arith)))
]

pub loop-end-preserved : goal.loop-end-preserved
loop-end-preserved c =
    let so_far = c.loop-end.invariant in
    let ascends = IsAscending-points_in c.args.points in
    let end = c.loop-end.end in
    let right = ascends.x_rises end (end + 1) (omega arith) (omega arith) in
    let upward = ascends.y_never_falls end (end + 1) (omega arith) (omega arith) in
    record {
      further = omega arith;
      within = omega arith;
      x = one_more (slice_index c.args.points.xs.now) c.args.from end
          (slice_index c.args.points.xs.now (c.args.from + 1) - slice_index c.args.points.xs.now c.args.from)
          so_far.further so_far.x (omega arith);
      y = one_more (slice_index c.args.points.ys.now) c.args.from end
          (slice_index c.args.points.ys.now (c.args.from + 1) - slice_index c.args.points.ys.now c.args.from)
          so_far.further so_far.y (omega arith);
    }

pub returns-then-end-from-clause-even : goal.returns-then-end-from-clause-even
returns-then-end-from-clause-even c =
    let so_far = c.loop-end.invariant in
    record {
      step = slice_index c.args.points.xs.now (c.args.from + 1) - slice_index c.args.points.xs.now c.args.from;
      climb = slice_index c.args.points.ys.now (c.args.from + 1) - slice_index c.args.points.ys.now c.args.from;
      fall = 0;
      x = λ k low high. so_far.x k low (omega arith);
      y = λ k low high. omega (arith, so_far.y k low (omega arith));
    }

pub returns-else-end-from-clause-even : goal.returns-else-end-from-clause-even
returns-else-end-from-clause-even c =
    let so_far = c.loop-end.invariant in
    record {
      step = slice_index c.args.points.xs.now (c.args.from + 1) - slice_index c.args.points.xs.now c.args.from;
      climb = slice_index c.args.points.ys.now (c.args.from + 1) - slice_index c.args.points.ys.now c.args.from;
      fall = 0;
      x = so_far.x;
      y = λ k low high. omega (arith, so_far.y k low high);
    }

pub returns-then-not-may_begin_stretch-clause-even : goal.returns-then-not-may_begin_stretch-clause-even
returns-then-not-may_begin_stretch-clause-even c =
    let ascends = IsAscending-points_in c.args.points in
    let right = ascends.x_rises c.args.from (c.args.from + 1) (omega arith) (omega arith) in
    AreEven-two (points_in c.args.points) c.args.from
    (omega (arith, right)) (ascends.y_never_falls c.args.from (c.args.from + 1) (omega arith) (omega arith))
