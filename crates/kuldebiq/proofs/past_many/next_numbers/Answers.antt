-- One more number is written.
use Rattle.std.proofs.Common.{◌≡◌, ◌≢◌, ◌∙◌, ◌-◌, ◌<◌, length, slice_index, slice_set, inl, inr, ap, arith}
use Rattle.std.proofs.Common.{get_or-set_other, get_or-set_same}
use Rattle.std.proofs.Math.ListN.{length-set}
use Rattle.std.proofs.lemmas.Bool.{cases_lt}
use Rattle.kuldebiq.proofs.past_many.next_numbers.Goals as goal

pub loop-lane-preserved : goal.loop-lane-preserved
loop-lane-preserved c =
    let next = c.loop-lane.next in
    let at = c.loop-lane.lane - c.args.first in
    let value = c.saturating_add.result in
    let inside : at < length next = omega (arith, c.loop-lane.invariant.long) in
    record {
      long = length-set next at value ∙ c.loop-lane.invariant.long;
      numbers = λ k from to fits. elim (cases_lt k c.loop-lane.lane) [
        | inl under ↦
            let other : k - c.args.first ≢ at = omega arith in
            get_or-set_other next at (k - c.args.first) value 0 other
            ∙ c.loop-lane.invariant.numbers k from under fits
        | inr rest ↦
            let same : k ≡ c.loop-lane.lane = omega arith in
            ap (λ j. slice_index (slice_set next at value) (j - c.args.first)) same
            ∙ get_or-set_same next at value 0 inside
            ∙ omega (arith, c.saturating_add.ensures, ap (slice_index c.args.questions.now) same, fits)
      ];
    }
