-- The points, the regions and the centres of a search.
use Rattle.std.proofs.Common.{◌≡◌, ℕ, ◌*◌, ◌/◌, ◌<◌, ◌≤◌, ◌^◌, List, [], length, ap, ◌∙◌, arith}
use Rattle.std.specs.Prelude.{All}
use Rattle.std.proofs.Math.Nat.{mul-div_cancel_left}
use Rattle.zorder.specs.declared.regions.Region.{Region}
use Rattle.zorder.specs.Codes.{IsDimension, coordinate_bits}
use Rattle.zorder.specs.Points.{ArePoints}
use Rattle.commands.specs.declared.task.Centre.{Centre}

-- what a read past the end would give
abbrev pub no_region : Region
no_region = record { d = 0; low = []; high = [] }

abbrev pub no_centre : Centre
no_centre = record { place = []; count = 0 }

-- how many points there are is told by the coordinates
pub count_is : (d : ℕ) (coords : List ℕ) →
    IsDimension d → (points : ArePoints d coords) → length coords / d ≡ points.count
count_is d coords dimension points =
    ap (λ (n : ℕ). n / d) points.whole ∙ mul-div_cancel_left points.count (omega (arith, dimension.0))

pub points_of : (d : ℕ) (coords : List ℕ) → length coords ≡ d * (length coords / d) → length coords / d < 2 ^ 32 →
    All (λ value. value < 2 ^ coordinate_bits d) coords → ArePoints d coords
points_of d coords whole few range = record { count = length coords / d; few = few; whole = whole; range = range }
