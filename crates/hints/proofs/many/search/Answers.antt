-- One more place is written.
use Rattle.std.proofs.Common.{ℕ, ◌≡◌, ◌+◌, ◌-◌, slice_index, inr, refl, sym, subst, arith}
use Rattle.hints.specs.Lookups.{IsPosition}
use Rattle.hints.specs.Many.{HoldsBound}
use Rattle.hints.proofs.LookupLemmas.{same_outside_set, each_set, TakesEach-more, TakesEach-least}
use Rattle.hints.proofs.many.search.Goals as goal

pub loop-lane-init : goal.loop-lane-init
loop-lane-init g c = record {
  same = λ k outside. refl;
  found = λ k from to. absurd (omega arith);
  worst = TakesEach-least _ _ _ (omega arith);
  near = λ order bounds. TakesEach-least _ _ _ (omega arith);
}

pub loop-lane-preserved : goal.loop-lane-preserved
loop-lane-preserved g c =
    let inv = c.loop-lane.invariant in
    let keys = c.args.keys.now in
    let questions = c.args.questions.now in
    let lane = c.loop-lane.lane in
    let old = inv.same lane (inr (omega arith)) in
    let next : lane + 1 - c.args.first ≡ lane - c.args.first + 1 = omega arith in
    record {
      same = same_outside_set _ lane _ _ c.loop-lane.places (omega arith) inv.same;
      found = each_set (λ (k place : ℕ). IsPosition keys (slice_index questions k) place) c.loop-lane.places _ lane _
          (omega (arith, c.loop-lane.auto.places)) inv.found c.position_at.ensures.place;
      worst = rw next (TakesEach-more _ _ _ _ _ _ inv.worst c.position_at.ensures.worst);
      near = λ order bounds.
          let here = subst (λ (place : ℕ). HoldsBound keys (slice_index questions lane) place 1)
          (sym old) (bounds lane (omega arith) (omega arith)) in
          rw next (TakesEach-more _ _ _ _ _ _ (inv.near order bounds) (c.position_at.ensures.near order here));
    }
