-- Points, as one list of their coordinates: all those of the first point, then those of the second, and so on.
use Rattle.std.specs.Prelude.{◌≡◌, ℕ, ◌*◌, ◌^◌, ◌<◌, List, length, All}
use Rattle.zorder.specs.Codes.{coordinate_bits}

-- d coordinates for each of fewer than 2 ^ 32 points, each in the range of d
pub record ArePoints (d : ℕ) (coords : List ℕ) : Type 0 where
  pub count : ℕ
  pub few : count < 2 ^ 32
  pub whole : length coords ≡ d * count
  pub range : All (λ value. value < 2 ^ coordinate_bits d) coords
