-- By the faults of keys that have no hints.
use Rattle.std.proofs.Common.{◌∙◌, ap, Err, arith}
use Rattle.kuldebiq.proofs.Judged.{can_have, refused_hints}
use Rattle.kuldebiq.proofs.making.made.Goals as goal

pub returns-in-Ok-clause-judged : goal.returns-in-Ok-clause-judged
returns-in-Ok-clause-judged c = can_have c.args.keys.now c.args.eps (omega arith)
    (λ many. let wrong = c.hints_of.ensures.too_many many in cc)
    (λ place few first. let wrong = c.hints_of.ensures.falls place few first in cc)

pub returns-in-Err-clause-refused : goal.returns-in-Err-clause-refused
returns-in-Err-clause-refused c =
    refused_hints c.args.keys.now c.args.eps c.in-Err.fault c.answer_of.result (omega arith) c.answer_of.ensures
    (λ count is. c.hints_of.ensures.too_many_only count (c.in-Err.is ∙ ap Err is))
    (λ place is. c.hints_of.ensures.falls_only place (c.in-Err.is ∙ ap Err is))
    (λ many. let is = c.hints_of.ensures.too_many many in cc)
    (λ place few first. let is = c.hints_of.ensures.falls place few first in cc)
