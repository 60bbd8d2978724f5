-- No code above the one outside is inside before the next one that is.
use Rattle.std.proofs.Common.{◌≡◌, ℕ, ◌<◌, length, slice_index, inl, inr, subst, arith}
use Rattle.std.proofs.lemmas.Bool.{cases_lt}
use Rattle.zorder.specs.Regions.{IsInside}
use Rattle.boxes.proofs.PlaceLemmas.{none_behind, none_below}
use Rattle.boxes.proofs.places.place_past.Goals as goal

pub returns-in-None-clause-skipped : goal.returns-in-None-clause-skipped
returns-in-None-clause-skipped c = λ sorted j from before.
    none_behind
    c.args.corners.now.region c.args.corners.now.in_range c.args.codes.now sorted c.args.at c.requires.outside
    j from before (c.type_inv.codes j).fits c.in-None.ensures.none

pub returns-in-Some-clause-skipped : goal.returns-in-Some-clause-skipped
returns-in-Some-clause-skipped c = λ sorted j from before inside.
    let codes = c.args.codes.now in
    let region = c.args.corners.now.region in
    elim (cases_lt c.args.at j) [
      | inl after ↦
          let within : j < length codes = omega (arith, before, c.place_of.ensures.within) in
          let less = c.place_of.ensures.below sorted j after before in
          none_below region c.args.corners.now.in_range codes sorted c.args.at c.requires.outside j from within
          (c.type_inv.codes j).fits c.in-Some.next c.in-Some.ensures.next less inside
      | inr rest ↦
          let here : j ≡ c.args.at = omega (arith, from, rest) in
          c.requires.outside (subst (λ (i : ℕ). IsInside region (slice_index codes i)) here inside)
    ]
