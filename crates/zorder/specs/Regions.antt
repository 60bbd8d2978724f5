-- Regions: boxes of points, by a closed interval for each coordinate, and the codes inside them.
-- Source: H. Tropf and H. Herzog, Multidimensional range search
-- in dynamically balanced trees, Angewandte Informatik 2/1981.
use Rattle.std.specs.Prelude.{◌≡◌, ℕ, ◌<◌, ◌≤◌, slice_index}
use Rattle.zorder.specs.declared.regions.Region.{Region}
use Rattle.zorder.specs.Codes.{IsDimension, IsInRange, coordinate}

-- the region has two, three or four coordinates, and the ends of its intervals are in their range
pub record IsRegion (region : Region) : Type 0 where
  pub dimension : IsDimension region.d
  pub low : IsInRange region.d region.low
  pub high : IsInRange region.d region.high

-- a region of points of d coordinates
abbrev pub IsRegionOf : ℕ → Region → Type 0
IsRegionOf d region = (region.d ≡ d) × IsRegion region

-- each coordinate of the code z lies between the region's low and its high, both included
abbrev pub IsInside : Region → ℕ → Type 0
IsInside region z = (c : ℕ) → c < region.d →
    (slice_index region.low c ≤ coordinate region.d c z) × (coordinate region.d c z ≤ slice_index region.high c)

-- some low is above its high
abbrev pub IsEmpty : Region → Type 0
IsEmpty region = (c : ℕ) × (c < region.d) × (slice_index region.high c < slice_index region.low c)
