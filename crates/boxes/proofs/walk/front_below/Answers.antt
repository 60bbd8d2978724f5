-- The numbers never fall, so how many are below is the place of the first that isn't.
use Rattle.std.proofs.Common.{ℕ, List, ap, sym, subst, ◌∙◌, arith}
use Rattle.std.specs.List.Sorted.{IsNonDecreasing}
use Rattle.std.proofs.lemmas.List.{take_all}
use Rattle.window_search.specs.Searches.{lb}
use Rattle.window_search.proofs.CallerLemmas.{IsLowerBound, IsLowerBound-lb}
use Rattle.boxes.proofs.walk.front_below.Goals as goal

is-bound : (c : goal.After-loop-number) →
    IsNonDecreasing c.args.numbers.now → IsLowerBound c.args.numbers.now c.args.least c.loop-number.count
is-bound c order =
    let least = c.args.least in
    let all = take_all c.loop-number.number-index c.args.numbers.now c.loop-number-test.false in
    subst (IsLowerBound c.args.numbers.now least)
    (sym (c.loop-number.invariant.0 ∙ ap (λ (xs : List ℕ). lb xs least) all))
    (IsLowerBound-lb c.args.numbers.now least order)

pub returns-clause-below : goal.returns-clause-below
returns-clause-below c = λ order. (is-bound c order).before

pub returns-clause-from : goal.returns-clause-from
returns-clause-from c = λ order. (is-bound c order).from c.loop-number.count (omega arith)
