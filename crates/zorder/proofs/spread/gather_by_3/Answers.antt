-- Each step doubles the blocks, from single bits to bytes, and the bytes are the number.
use Rattle.std.proofs.Common.{◌^◌, ◌<◌, refl, arith, lit<, lit≤}
use Rattle.zorder.specs.Codes.{coordinate}
use Rattle.zorder.proofs.GatherLemmas.{bytes_gathered, coordinate-lt, first_spread}
use Rattle.zorder.proofs.SpreadLemmas.{short, join}
use Rattle.zorder.proofs.Masks.{mask_1_3, mask_2_6, mask_4_12, mask_8_24}
use Rattle.zorder.proofs.spread.gather_by_3.Goals as goal

pub returns : goal.returns
returns c =
    let fits : c.args.code < 2 ^ 64 = omega arith in
    let narrow = coordinate-lt 3 c.args.code (lit< tt) fits 22 (lit≤ tt) in
    let blocks_1 = first_spread 3 c.args.code (lit< tt) fits _ mask_1_3 in
    let blocks_2 = join {block = 1} {stride = 3} 2 mask_2_6
    (lit≤ tt) refl (short 3 22 (lit< tt) refl (lit≤ tt) narrow) blocks_1 c.join_blocks-blocks_2.ensures in
    let blocks_4 = join {block = 2} {stride = 6} 4 mask_4_12
    (lit≤ tt) refl (short 3 22 (lit< tt) refl (lit≤ tt) narrow) blocks_2 c.join_blocks-blocks_4.ensures in
    let blocks_8 = join {block = 4} {stride = 12} 8 mask_8_24
    (lit≤ tt) refl (short 3 22 (lit< tt) refl (lit≤ tt) narrow) blocks_4 c.join_blocks-blocks_8.ensures in
    bytes_gathered (coordinate 3 0 c.args.code) c.join_blocks-blocks_8.result narrow blocks_8
