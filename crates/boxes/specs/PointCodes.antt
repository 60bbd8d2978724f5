-- The codes of points, sorted.
use Rattle.std.specs.Prelude.{ℕ, ◌/◌, List, length, map, All}
use Rattle.std.specs.Fork.{slice_chunk}
use Rattle.std.specs.List.{range_with_len}
use Rattle.std.specs.List.Sorted.{IsNonDecreasing, IsPermutation}
use Rattle.levels.specs.Indexes.{PgmIndex}
use Rattle.zorder.specs.Codes.{IsCode, IsDimension, code}

-- the codes of points of d coordinates, in the points' order:
-- that of point i is made of the d coordinates from d * i on
abbrev pub codes_of : ℕ → List ℕ → List ℕ
codes_of d coords = map (λ i. code d (slice_chunk coords d i)) (range_with_len 0 (length coords / d))

-- the same codes in rising order, each as often as there are points with it
pub record AreSortedCodes (d : ℕ) (coords codes : List ℕ) : Type 0 where
  pub never_falls : IsNonDecreasing codes
  pub same : IsPermutation (codes_of d coords) codes

-- sorted codes of d coordinates, and an index over them
pub record PointCodes : Type 0 where
  pub dims : ℕ
  pub codes : List ℕ
  pub index : PgmIndex

-- points have two, three or four coordinates, and each code is one of points of that many
pub record AreCodes (d : ℕ) (codes : List ℕ) : Type 0 where
  pub dimension : IsDimension d
  pub each : All (λ z. IsCode d z) codes
