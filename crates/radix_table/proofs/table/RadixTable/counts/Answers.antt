-- What the entries of a question's step say.
use Rattle.std.proofs.Common.{◌≡◌, ◌+◌, ◌<◌, length, sym, subst, arith}
use Rattle.std.proofs.lemmas.List.{get_or_default}
use Rattle.radix_table.specs.Tables.{RadixEntries, step_of, IsTableOf}
use Rattle.radix_table.proofs.CountLemmas.{IsBetween-at, Rises-scale}
use Rattle.radix_table.proofs.table.RadixTable.counts.Goals as goal

pub returns-clause-between : goal.returns-clause-between
returns-clause-between c = λ xs most order is.
    let own = c.self.inside in
    let table : RadixEntries = record { scale = own.scale; entries = own.entries.items } in
    let of = subst (λ (t : RadixEntries). IsTableOf xs most t) (sym c.self.view_is) is in
    let count : c.len-count.result ≡ length own.entries.items = omega (arith, c.len-count.ensures, own.entries.ok.0) in
    let inside : c.min-step.result + 1 < length own.entries.items =
    omega (arith, count, c.min-step.ensures, c.if-count-lt2.false) in
    let left = get_or_default own.entries.items c.min-step.result c.index.result.now 0 (omega arith) in
    let right = get_or_default own.entries.items (c.min-step.result + 1) c.index-2.result.now 0 inside in
    IsBetween-at (step_of own.scale) xs own.entries.items c.args.q
    c.min-step.result c.index.result.now c.index-2.result.now (Rises-scale own.scale of.scale) order of.counts
    (omega (arith, count, c.if-count-lt2.false)) (omega (arith, c.min-step.ensures, c.step.ensures, count))
    (omega (arith, c.index.ensures, left)) (omega (arith, c.index-2.ensures, right))
