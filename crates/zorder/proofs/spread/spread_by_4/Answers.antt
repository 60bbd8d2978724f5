-- Each step halves the blocks, from the whole number to single bits.
use Rattle.std.proofs.Common.{◌^◌, ◌<◌, refl, arith, lit<, lit≤}
use Rattle.zorder.proofs.SpreadLemmas.{short, whole, halve}
use Rattle.zorder.proofs.Masks.{mask_8_32, mask_4_16, mask_2_8, mask_1_4}
use Rattle.zorder.proofs.spread.spread_by_4.Goals as goal

pub returns : goal.returns
returns c =
    let fits : c.args.value < 2 ^ 16 = omega arith in
    let start = whole 16 64 c.args.value c.from.result (lit≤ tt) (omega arith) c.from.ensures in
    let blocks_8 = halve 24 mask_8_32
    (lit≤ tt) refl (short 4 16 (lit< tt) refl (lit≤ tt) fits) start c.halve_blocks-blocks_8.ensures in
    let blocks_4 = halve 12 mask_4_16
    (lit≤ tt) refl (short 4 16 (lit< tt) refl (lit≤ tt) fits) blocks_8 c.halve_blocks-blocks_4.ensures in
    let blocks_2 = halve 6 mask_2_8
    (lit≤ tt) refl (short 4 16 (lit< tt) refl (lit≤ tt) fits) blocks_4 c.halve_blocks-blocks_2.ensures in
    halve 3 mask_1_4 (lit≤ tt) refl (short 4 16 (lit< tt) refl (lit≤ tt) fits) blocks_2 c.halve_blocks.ensures
