-- Question by question.
use Rattle.std.proofs.Common.{slice_index, arith}
use Rattle.kuldebiq.proofs.PastLemmas.{past_position}
use Rattle.kuldebiq.proofs.find_calls.kuldebiq_find_past_many32.Goals as goal

pub returns-clause-places : goal.returns-clause-places
returns-clause-places c = λ done k inside.
    past_position c.args.keys.now (slice_index c.args.questions.now k) _
    (λ j. omega (arith, (c.type_inv.keys j).fits)) (c.find_past_many.ensures.places done k inside)
