-- How far points are from a centre, and the boxes about it.
use Rattle.std.specs.Prelude.{ℕ, ◌+◌, ◌-◌, ◌^◌, List, length, map, min, max, slice_index}
use Rattle.std.specs.Int.{abs_diff}
use Rattle.std.specs.List.{fold, range_with_len}
use Rattle.zorder.specs.declared.regions.Region.{Region}
use Rattle.zorder.specs.Codes.{coordinate, coordinate_bits}
use Rattle.boxes.specs.BoxAnswers.{codes_inside}

-- how far coordinate c of the code z is from the centre's
abbrev pub apart : ℕ → List ℕ → ℕ → ℕ → ℕ
apart d centre z c = abs_diff (coordinate d c z) (slice_index centre c)

-- how far the point of a code is from the centre: the greatest difference of a coordinate (Chebyshev)
unfoldable pub distance : ℕ → List ℕ → ℕ → ℕ
distance d centre z = fold max 0 (map (apart d centre z) (range_with_len 0 d))

-- all places within `reach` of the centre, clipped to the range of a coordinate
abbrev pub box_around : ℕ → List ℕ → ℕ → Region
box_around d centre reach = record {
  d = d;
  low = map (λ value. value - reach) centre;
  high = map (λ value. min (value + reach) (2 ^ coordinate_bits d - 1)) centre;
}

-- how many of the codes are in the box of what is within 2 ^ i - 1 of the centre
abbrev pub points_within : ℕ → List ℕ → List ℕ → ℕ → ℕ
points_within d centre codes i = length (codes_inside (box_around d centre (2 ^ i - 1)) codes)
