-- One more place is written.
use Rattle.std.proofs.Common.{ℕ, slice_index, arith}
use Rattle.hints.specs.Told.{IsTold}
use Rattle.hints.proofs.LookupLemmas.{same_outside_set, each_set}
use Rattle.hints.proofs.many.tell.Goals as goal

pub loop-lane-preserved : goal.loop-lane-preserved
loop-lane-preserved c =
    let inv = c.loop-lane.invariant in
    let questions = c.args.questions.now in
    record {
      same = same_outside_set _ c.loop-lane.lane _ _ c.loop-lane.places (omega arith) inv.same;
      each = each_set
          (λ (k place : ℕ). IsTold c.args.hints.now c.args.n (slice_index questions k) place) c.loop-lane.places
          _ c.loop-lane.lane _ (omega (arith, c.loop-lane.auto.places)) inv.each c.told.ensures.place;
    }
