-- Neighbours that don't fall are all that the order asks, and neighbours that do are against it.
use Rattle.std.proofs.Common.{IsTrue, Bool, true, false, MatchBool, ℕ, ◌+◌, ◌<◌, List, length, refl, arith}
use Rattle.std.proofs.Common.{get_or}
use Rattle.std.proofs.lemmas.List.Sorted.{non_decreasing_from_is_sorted}
use Rattle.std.specs.List.Sorted.{IsNonDecreasing}
use Rattle.key_points.proofs.order.is_sorted.Goals as goal

when_true : (P Q : Type 0) (b : Bool) → MatchBool b P Q → IsTrue b → P
when_true P Q true h t = h
when_true P Q false h t = absurd (cc t)

when_sorted : (keys : List ℕ) (b : Bool) → MatchBool b
    (IsNonDecreasing keys) ((k : ℕ) × (k + 1 < length keys) × ((d : ℕ) → get_or keys (k + 1) d < get_or keys k d)) →
    IsNonDecreasing keys → IsTrue b
when_sorted keys true h order = refl
when_sorted keys false (k, inside, falls) order =
    absurd (omega (arith, order k (k + 1) 0 (omega arith) inside, falls 0))

pub returns : goal.returns
returns c =
    let keys = c.args.keys.now in
    let answer = non_decreasing_from_is_sorted keys c.is_sorted.result c.is_sorted.ensures.cases in
    (when_true _ _ _ answer, when_sorted keys _ answer)
