use Rattle.std.proofs.Common.{◌<◌, length, ◌∙◌, arith}
use Rattle.std.proofs.lemmas.List.{get_or_default}
use Rattle.map_level.proofs.FilterLemmas.{passes-more}
use Rattle.map_level.proofs.filter.set.Goals as goal

pub returns-clause-others : goal.returns-clause-others
returns-clause-others c = λ other passes.
    let inside :
    c.slot-slot.result < length c.args.words.now.items = omega (arith, c.slot-slot.ensures.inside, c.len.ensures) in
    passes-more c.args.words.now.items c.slot-slot.result c.index_mut.result.now c.bits.result other inside
    (c.index_mut.ensures.value
    ∙ get_or_default c.args.words.now.items c.slot-slot.result c.index_mut.result.now 0 inside) passes
