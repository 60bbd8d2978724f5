-- One more place is written.
use Rattle.std.proofs.Common.{ℕ, slice_index, refl, arith}
use Rattle.hints.proofs.LookupLemmas.{same_outside_set, each_set}
use Rattle.kuldebiq.specs.Positions.{IsPast}
use Rattle.kuldebiq.proofs.past_many.write_block.Goals as goal

pub loop-lane-init : goal.loop-lane-init
loop-lane-init g c = record { same = λ k outside. refl; past = λ k from to. absurd (omega arith) }

pub loop-lane-preserved : goal.loop-lane-preserved
loop-lane-preserved g c =
    let inv = c.loop-lane.invariant in
    record {
      same = same_outside_set _ c.loop-lane.lane _ _ c.loop-lane.places (omega arith) inv.same;
      past = each_set
          (λ (k place : ℕ). IsPast (g.K.KeyList.listed c.args.keys) (slice_index c.args.questions.now k) place)
          c.loop-lane.places _ c.loop-lane.lane _ (omega (arith, c.loop-lane.auto.places)) inv.past
          c.place_behind.ensures;
    }
