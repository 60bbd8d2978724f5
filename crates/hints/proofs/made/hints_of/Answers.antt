-- The hints of a least cover's lines lead.
use Rattle.std.proofs.Common.{◌-◌, arith}
use Rattle.hints.proofs.KeyLemmas.{LeadsWithin-keys}
use Rattle.hints.proofs.made.hints_of.Goals as goal

pub returns-clause-lead : goal.returns-clause-lead
returns-clause-lead c = LeadsWithin-keys c.args.keys.now c.args.eps
    c.in_ok-hints_of_sorted.field-0.items c.in_ok-judge.ensures.keys.never_falls c.in_ok-hints_of_sorted.ensures

pub returns-clause-falls : goal.returns-clause-falls
returns-clause-falls c = λ place few fall. absurd
    (omega (arith, fall.falls, c.in_ok-judge.ensures.keys.never_falls (place - 1) place 0 (omega arith) fall.inside))
