use Rattle.std.proofs.Common.{◌+◌, ◌/◌, ◌++◌, Some, length, subst, sym, ap, arith, refl}
use Rattle.std.proofs.lemmas.Result.{IfOk-weaker}
use Rattle.log_levels.specs.Shapes.{IsLevelFor, from_bit}
use Rattle.log_levels.proofs.HeldLemmas.{capacity_is}
use Rattle.log_levels.proofs.GrowthLemmas.{seam, few-of, merged-here}
use Rattle.log_levels.proofs.log_map.LogMap.merged_level.Goals as goal

pub overflow_sub-end : goal.overflow_sub-end
overflow_sub-end g c =
    let at = seam c.args.self.now.accepted (length c.args.new.now) c.args.top c.requires.growth.change in
    omega (arith, at.1, c.entries_from_bit.ensures, ap (λ b. from_bit c.args.top b) c.blocks_with-blocks.ensures.blocks)

pub shared-requires-clause-few : goal.shared-requires-clause-few
shared-requires-clause-few g c =
    let (entries, cut) = c.blocks_with-blocks.ensures.stands in
    let here = merged-here c.args.self.now c.args.new.now c.args.top c.requires.growth.change
    entries cut c.blocks_with-blocks.result c.entries_from_bit.result c.accepted.result c.in_ok-merged.merged.items
    c.blocks_with-blocks.ensures.blocks c.entries_from_bit.ensures c.accepted.ensures.count
    (c.in_ok-merged.ensures entries cut) in
    let most = few-of c.args.self.now
    c.args.new.now c.args.top c.requires.growth.change entries cut _ c.args.top c.in_ok-merged.merged.items here in
    let capacity = capacity_is _ _ refl c.blocks_with-blocks.ensures.levels in
    omega (arith, most, capacity.2, c.in_ok-merged.merged.ok.0)

pub returns : goal.returns
returns g c = IfOk-weaker c.shared.result _ _ (λ shared is entries cut.
    subst (λ list. IsLevelFor (entries ++ c.args.new.now)
    ((c.args.self.now.accepted + length c.args.new.now) / 64) c.args.top (Some list)) (sym is)
    (merged-here c.args.self.now c.args.new.now c.args.top c.requires.growth.change
    entries cut c.blocks_with-blocks.result c.entries_from_bit.result c.accepted.result c.in_ok-merged.merged.items
    c.blocks_with-blocks.ensures.blocks c.entries_from_bit.ensures c.accepted.ensures.count
    (c.in_ok-merged.ensures entries cut)))
    c.shared.ensures
