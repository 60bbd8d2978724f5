-- How far the coordinates of a code are from a centre's, and the boxes about it.
use Rattle.std.specs.Prelude.{ℕ, ◌+◌, ◌-◌, ◌^◌, List, map, min, slice_index}
use Rattle.std.specs.Int.{abs_diff}
use Rattle.zorder.specs.declared.regions.Region.{Region}
use Rattle.zorder.specs.Codes.{coordinate, coordinate_bits}

-- how far coordinate c of the code z is from the centre's
abbrev pub apart : ℕ → List ℕ → ℕ → ℕ → ℕ
apart d centre z c = abs_diff (coordinate d c z) (slice_index centre c)

-- all places within `reach` of the centre, clipped to the range of a coordinate
abbrev pub box_around : ℕ → List ℕ → ℕ → Region
box_around d centre reach = record {
  d = d;
  low = map (λ value. value - reach) centre;
  high = map (λ value. min (value + reach) (2 ^ coordinate_bits d - 1)) centre;
}
