-- Each step doubles the blocks, from single bits to the whole number.
use Rattle.std.proofs.Common.{◌^◌, ◌<◌, refl, arith, lit<, lit≤}
use Rattle.zorder.specs.Codes.{coordinate}
use Rattle.zorder.proofs.GatherLemmas.{coordinate-lt, first_spread, masked-lt}
use Rattle.zorder.proofs.SpreadLemmas.{short, join, gathered}
use Rattle.zorder.proofs.Masks.{mask_1_2, mask_2_4, mask_4_8, mask_8_16, mask_16_32, mask_32_64}
use Rattle.zorder.proofs.spread.gather_by_2.Goals as goal

pub returns : goal.returns
returns c =
    let fits : c.args.code < 2 ^ 64 = omega arith in
    let narrow = coordinate-lt 2 c.args.code (lit< tt) fits 32 (lit≤ tt) in
    let blocks_1 = first_spread 2 c.args.code (lit< tt) fits _ mask_1_2 in
    let blocks_2 = join {block = 1} {stride = 2} 1 mask_2_4
    (lit≤ tt) refl (short 2 32 (lit< tt) refl (lit≤ tt) narrow) blocks_1 c.join_blocks-blocks_2.ensures in
    let blocks_4 = join {block = 2} {stride = 4} 2 mask_4_8
    (lit≤ tt) refl (short 2 32 (lit< tt) refl (lit≤ tt) narrow) blocks_2 c.join_blocks-blocks_4.ensures in
    let blocks_8 = join {block = 4} {stride = 8} 4 mask_8_16
    (lit≤ tt) refl (short 2 32 (lit< tt) refl (lit≤ tt) narrow) blocks_4 c.join_blocks-blocks_8.ensures in
    let blocks_16 = join {block = 8} {stride = 16} 8 mask_16_32
    (lit≤ tt) refl (short 2 32 (lit< tt) refl (lit≤ tt) narrow) blocks_8 c.join_blocks-blocks_16.ensures in
    let blocks_32 = join {block = 16} {stride = 32} 16 mask_32_64
    (lit≤ tt) refl (short 2 32 (lit< tt) refl (lit≤ tt) narrow) blocks_16 c.join_blocks.ensures in
    let wide : coordinate 2 0 c.args.code < 2 ^ 32 = omega arith in
    gathered 32 64 (coordinate 2 0 c.args.code) c.join_blocks.result
    (lit≤ tt) wide (masked-lt 32 _ _ c.join_blocks.result (lit< tt) c.join_blocks.ensures) blocks_32
