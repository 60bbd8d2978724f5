-- The masks of the steps, by the size of their blocks and how far apart these begin.
use Rattle.std.proofs.Common.{refl, lit<, lit≤}
use Rattle.zorder.proofs.SpreadLemmas.{IsMask, is_mask}

-- ---- of two coordinates

pub mask_32_64 : IsMask 32 64 0x00000000ffffffff
mask_32_64 = is_mask 32 64 0x00000000ffffffff (lit≤ tt) (lit< tt) refl

pub mask_16_32 : IsMask 16 32 0x0000ffff0000ffff
mask_16_32 = is_mask 16 32 0x0000ffff0000ffff (lit≤ tt) (lit< tt) refl

pub mask_8_16 : IsMask 8 16 0x00ff00ff00ff00ff
mask_8_16 = is_mask 8 16 0x00ff00ff00ff00ff (lit≤ tt) (lit< tt) refl

pub mask_4_8 : IsMask 4 8 0x0f0f0f0f0f0f0f0f
mask_4_8 = is_mask 4 8 0x0f0f0f0f0f0f0f0f (lit≤ tt) (lit< tt) refl

pub mask_2_4 : IsMask 2 4 0x3333333333333333
mask_2_4 = is_mask 2 4 0x3333333333333333 (lit≤ tt) (lit< tt) refl

pub mask_1_2 : IsMask 1 2 0x5555555555555555
mask_1_2 = is_mask 1 2 0x5555555555555555 (lit≤ tt) (lit< tt) refl

-- ---- of three coordinates

pub mask_16_48 : IsMask 16 48 0xffff00000000ffff
mask_16_48 = is_mask 16 48 0xffff00000000ffff (lit≤ tt) (lit< tt) refl

pub mask_8_24 : IsMask 8 24 0x00ff0000ff0000ff
mask_8_24 = is_mask 8 24 0x00ff0000ff0000ff (lit≤ tt) (lit< tt) refl

pub mask_4_12 : IsMask 4 12 0xf00f00f00f00f00f
mask_4_12 = is_mask 4 12 0xf00f00f00f00f00f (lit≤ tt) (lit< tt) refl

pub mask_2_6 : IsMask 2 6 0x30c30c30c30c30c3
mask_2_6 = is_mask 2 6 0x30c30c30c30c30c3 (lit≤ tt) (lit< tt) refl

pub mask_1_3 : IsMask 1 3 0x9249249249249249
mask_1_3 = is_mask 1 3 0x9249249249249249 (lit≤ tt) (lit< tt) refl

-- ---- of four coordinates

pub mask_16_64 : IsMask 16 64 0x000000000000ffff
mask_16_64 = is_mask 16 64 0x000000000000ffff (lit≤ tt) (lit< tt) refl

pub mask_8_32 : IsMask 8 32 0x000000ff000000ff
mask_8_32 = is_mask 8 32 0x000000ff000000ff (lit≤ tt) (lit< tt) refl

pub mask_4_16 : IsMask 4 16 0x000f000f000f000f
mask_4_16 = is_mask 4 16 0x000f000f000f000f (lit≤ tt) (lit< tt) refl

pub mask_2_8 : IsMask 2 8 0x0303030303030303
mask_2_8 = is_mask 2 8 0x0303030303030303 (lit≤ tt) (lit< tt) refl

pub mask_1_4 : IsMask 1 4 0x1111111111111111
mask_1_4 = is_mask 1 4 0x1111111111111111 (lit≤ tt) (lit< tt) refl
