-- One more place is written, which still stands as it was.
use Rattle.std.proofs.Common.{ℕ, ◌≡◌, ◌-◌, slice_index, min, inr, arith}
use Rattle.hints.proofs.LookupLemmas.{same_outside_set, each_set}
use Rattle.hints.proofs.many.set_out.Goals as goal

pub loop-lane-preserved : goal.loop-lane-preserved
loop-lane-preserved c =
    let inv = c.loop-lane.invariant in
    let before = c.args.places.now in
    let lane = c.loop-lane.lane in
    let old = inv.same lane (inr (omega arith)) in
    record {
      same = same_outside_set _ lane _ _ c.loop-lane.places (omega arith) inv.same;
      each = each_set (λ (k place : ℕ). place ≡ min (slice_index before k - c.args.back) c.args.last)
          c.loop-lane.places _ lane _ (omega (arith, c.loop-lane.auto.places)) inv.each
          (omega (arith, old, c.saturating_sub.ensures, c.min.ensures));
    }
