-- What the crates above cite of codes and regions, in one place.
pub use Rattle.zorder.proofs.BitLemmas.{bit_at-mod, bit_at-shl, bit_at-shl_low, bit_at-shr}
pub use Rattle.zorder.proofs.BitOrder.{DiffersAt, less_by_bit, top_difference}
pub use Rattle.zorder.proofs.CodeLemmas.{
  IsCode-code,
  IsCodeOf-code,
  bit_at-coordinate,
  code-lt,
  code_fits,
  code_from_coordinates,
  code_rises,
  coordinate-code,
  coordinate_below,
  coordinate_from_bits,
  is_code,
  rises,
  same_from_coordinates,
}
pub use Rattle.zorder.proofs.DilatedLemmas.{
  agree_dilated,
  bit_at-other,
  bit_at-own,
  coordinate-le,
  dilated-le,
  dilated-lt,
  own_from_one,
}
pub use Rattle.zorder.proofs.RegionLemmas.{between-from_inside, corners-from_inside, inside-from_between}
pub use Rattle.zorder.proofs.RegionLemmas.{inside-from_corners, inside_between, low_inside}
