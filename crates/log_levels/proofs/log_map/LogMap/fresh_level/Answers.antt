use Rattle.std.proofs.Common.{◌≡◌, ◌+◌, ◌/◌, ◌++◌, Some, false, length, subst, sym, ap, arith, refl, inl, inr}
use Rattle.std.specs.Int.{bit_at}
use Rattle.map_level.specs.Levels.{IsLastOfEach}
use Rattle.log_levels.specs.Shapes.{IsLevelFor, from_bit}
use Rattle.log_levels.proofs.BitLemmas.{bit-cases}
use Rattle.log_levels.proofs.HeldLemmas.{capacity_is}
use Rattle.log_levels.proofs.LengthLemmas.{length-latest}
use Rattle.log_levels.proofs.GrowthLemmas.{fresh-from, fresh-to, fresh-here}
use Rattle.log_levels.proofs.log_map.LogMap.fresh_level.Goals as goal

pub overflow_sub-start : goal.overflow_sub-start
overflow_sub-start g c =
    let from = fresh-from c.args.self.now.accepted
    (length c.args.new.now) c.args.top c.args.i c.requires.growth.change c.requires.below in
    omega (
      arith,
      from,
      c.entries_from_bit.ensures,
      ap (λ b. from_bit (c.args.i + 1) b) c.blocks_with-blocks.ensures.blocks,
    )

pub overflow_sub-end : goal.overflow_sub-end
overflow_sub-end g c =
    let from = fresh-from c.args.self.now.accepted
    (length c.args.new.now) c.args.top c.args.i c.requires.growth.change c.requires.below in
    let to = fresh-to c.args.self.now.accepted (length c.args.new.now) c.args.i in
    omega (
      arith,
      from,
      to.0,
      c.entries_from_bit-2.ensures,
      ap (λ b. from_bit c.args.i b) c.blocks_with-blocks.ensures.blocks,
    )

pub part-requires-clause-order : goal.part-requires-clause-order
part-requires-clause-order g c =
    let to = fresh-to c.args.self.now.accepted (length c.args.new.now) c.args.i in
    omega (
      arith,
      to.0,
      c.entries_from_bit-2.ensures,
      ap (λ b. from_bit c.args.i b) c.blocks_with-blocks.ensures.blocks,
      ap (λ b. from_bit (c.args.i + 1) b) c.blocks_with-blocks.ensures.blocks,
    )

pub part-requires-clause-within : goal.part-requires-clause-within
part-requires-clause-within g c =
    let to = fresh-to c.args.self.now.accepted (length c.args.new.now) c.args.i in
    omega (arith, to.1, c.entries_from_bit-2.ensures, ap (λ b. from_bit c.args.i b) c.blocks_with-blocks.ensures.blocks)

pub shared-requires-clause-few : goal.shared-requires-clause-few
shared-requires-clause-few g c =
    let capacity = capacity_is _ _ refl c.blocks_with-blocks.ensures.levels in
    let most = length-latest false c.part.result.now c.in_ok-latest.latest.items c.in_ok-latest.ensures in
    let to = fresh-to c.args.self.now.accepted (length c.args.new.now) c.args.i in
    omega (
      arith,
      most,
      c.part.ensures.len,
      to.1,
      capacity.2,
      c.in_ok-latest.latest.ok.0,
      c.entries_from_bit-2.ensures,
      ap (λ b. from_bit c.args.i b) c.blocks_with-blocks.ensures.blocks,
    )

pub returns : goal.returns
returns g c = λ entries cut.
    let set : bit_at c.blocks_with-blocks.result c.args.i ≡ 1 = elim (bit-cases c.blocks_with-blocks.result c.args.i)
    [ inl clear ↦ absurd (c.if-blocks-i-eq0.false clear) | inr set ↦ set ] in
    let last = subst
    (λ block. IsLastOfEach false block c.in_ok-latest.latest.items) c.part.ensures.part c.in_ok-latest.ensures in
    subst (λ list. IsLevelFor
    (entries ++ c.args.new.now) ((c.args.self.now.accepted + length c.args.new.now) / 64) c.args.i (Some list))
    (sym c.in_ok-shared.ensures)
    (fresh-here c.args.self.now
    c.args.new.now c.args.top c.requires.growth.change entries cut c.blocks_with-blocks.result c.args.i
    c.entries_from_bit.result c.entries_from_bit-2.result c.accepted-accepted.result c.in_ok-latest.latest.items
    c.requires.below c.blocks_with-blocks.ensures.blocks
    set c.entries_from_bit.ensures c.entries_from_bit-2.ensures c.accepted-accepted.ensures.count last)
