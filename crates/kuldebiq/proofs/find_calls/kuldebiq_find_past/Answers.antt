-- Behind the greatest number is the end.
use Rattle.std.proofs.Common.{arith}
use Rattle.kuldebiq.proofs.PastLemmas.{past_position}
use Rattle.kuldebiq.proofs.find_calls.kuldebiq_find_past.Goals as goal

pub returns : goal.returns
returns c =
    past_position c.args.keys.now c.args.question c.upper_bound.result (λ k. omega (arith, (c.type_inv.keys k).fits))
    (record { next = c.upper_bound.ensures.place; end = c.upper_bound.ensures.end })
