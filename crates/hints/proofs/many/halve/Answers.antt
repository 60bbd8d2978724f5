-- One more place is halved.
use Rattle.std.proofs.Common.{ℕ, ◌+◌, ◌-◌, ◌/◌, ◌≤◌, length, slice_index, inr, sym, subst, arith}
use Rattle.hints.specs.Many.{HoldsBound}
use Rattle.hints.proofs.LookupLemmas.{same_outside_set, each_set}
use Rattle.hints.proofs.many.halve.Goals as goal

pub halved-requires-clause-open : goal.halved-requires-clause-open
halved-requires-clause-open g c =
    let inv = c.loop-lane.invariant in
    omega (
      arith,
      inv.same c.loop-lane.lane (inr (omega arith)),
      c.requires.open c.loop-lane.lane (omega arith) (omega arith),
    )

pub loop-lane-preserved : goal.loop-lane-preserved
loop-lane-preserved g c =
    let inv = c.loop-lane.invariant in
    let keys = c.args.keys.now in
    let questions = c.args.questions.now in
    let left = c.args.left in
    let lane = c.loop-lane.lane in
    let old = inv.same lane (inr (omega arith)) in
    let inside = c.loop-lane.auto.places in
    record {
      same = same_outside_set _ lane _ _ c.loop-lane.places (omega arith) inv.same;
      open_places = each_set (λ (k place : ℕ). place + (left - left / 2) ≤ length keys + 1) c.loop-lane.places _ lane _
          (omega (arith, inside)) inv.open_places c.halved.ensures.open;
      near = λ order bounds.
          each_set (λ (k place : ℕ). HoldsBound keys (slice_index questions k) place (left - left / 2))
          c.loop-lane.places _ lane _ (omega (arith, inside)) (inv.near order bounds)
          (c.halved.ensures.near order
          (subst (λ (place : ℕ). HoldsBound keys (slice_index questions lane) place left)
          (sym old) (bounds lane (omega arith) (omega arith))));
      taken = omega (arith, inv.taken, c.halved.ensures.cost);
    }
