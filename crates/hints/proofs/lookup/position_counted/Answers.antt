-- The search begins where the hints tell.
use Rattle.std.proofs.Common.{arith}
use Rattle.hints.proofs.LookupLemmas.{worst_reads, near_reads}
use Rattle.hints.proofs.lookup.position_counted.Goals as goal

pub returns-clause-worst : goal.returns-clause-worst
returns-clause-worst g c = worst_reads _ _ _ _ _ _ c.bracket_from.ensures.cost c.bracket_from.ensures.bracket

pub returns-clause-near : goal.returns-clause-near
returns-clause-near g c = λ off order leads.
    near_reads _ c.args.hints.now c.args.q c.len.result
    c.told-from.result _ _ _ off c.len.ensures c.told-from.ensures.place c.told-from.ensures.within (omega arith)
    c.bracket_from.ensures.cost (c.bracket_from.ensures.found order) leads
