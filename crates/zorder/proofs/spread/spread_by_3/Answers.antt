-- Each step halves the blocks, from the whole number to single bits.
use Rattle.std.proofs.Common.{◌^◌, ◌<◌, refl, arith, lit<, lit≤}
use Rattle.zorder.proofs.SpreadLemmas.{short, whole, halve}
use Rattle.zorder.proofs.Masks.{mask_16_48, mask_8_24, mask_4_12, mask_2_6, mask_1_3}
use Rattle.zorder.proofs.spread.spread_by_3.Goals as goal

pub returns : goal.returns
returns c =
    let fits : c.args.value < 2 ^ 21 = omega arith in
    let start = whole 32 96 c.args.value c.from.result (lit≤ tt) (omega arith) c.from.ensures in
    let blocks_16 = halve 32 mask_16_48
    (lit≤ tt) refl (short 3 21 (lit< tt) refl (lit≤ tt) fits) start c.halve_blocks-blocks_16.ensures in
    let blocks_8 = halve 16 mask_8_24
    (lit≤ tt) refl (short 3 21 (lit< tt) refl (lit≤ tt) fits) blocks_16 c.halve_blocks-blocks_8.ensures in
    let blocks_4 = halve 8 mask_4_12
    (lit≤ tt) refl (short 3 21 (lit< tt) refl (lit≤ tt) fits) blocks_8 c.halve_blocks-blocks_4.ensures in
    let blocks_2 = halve 4 mask_2_6
    (lit≤ tt) refl (short 3 21 (lit< tt) refl (lit≤ tt) fits) blocks_4 c.halve_blocks-blocks_2.ensures in
    halve 2 mask_1_3 (lit≤ tt) refl (short 3 21 (lit< tt) refl (lit≤ tt) fits) blocks_2 c.halve_blocks.ensures
