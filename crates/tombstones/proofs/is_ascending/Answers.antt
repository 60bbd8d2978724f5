-- The closure tests two neighbours' keys, so its answers are those of `ascending_answer`.
use Rattle.std.proofs.Common.{ltb, rules}
use Rattle.std.proofs.lemmas.List.Sorted.{answers_always}
use Rattle.tombstones.proofs.Order.{ascending_answer}
use Rattle.tombstones.proofs.is_ascending.Goals as goal

pub returns : goal.returns
returns c = ascending_answer c.args.entries.now c.is_sorted_by.result
    (c.is_sorted_by.ensures.cases (λ x y. ltb x.key y.key) (answers_always _ _ _ (λ f a r f' called. search rules)))
