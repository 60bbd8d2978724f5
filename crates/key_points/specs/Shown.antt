-- What is known of a `Keys` and of a `KeyPoints`.
use Rattle.std.specs.Prelude.{◌≡◌, ℕ, ◌<◌, ◌^◌, List, length}
use Rattle.std.specs.List.Sorted.{IsNonDecreasing}
use Rattle.key_points.specs.KeyPoints.{distinct_of, xs_of, ys_of}

-- sorted keys, fewer than 2^32, how many of them are distinct, and how many points they have
pub record AreOfKeys (file : List ℕ) (distinct points : ℕ) : Type 0 where
  pub never_falls : IsNonDecreasing file
  pub few : length file < 2 ^ 32
  pub counted : distinct ≡ length (distinct_of file)
  pub pointed : points ≡ length (xs_of file)

-- sorted keys, fewer than 2^32, and the heights of their points
pub record HasHeights (keys ys : List ℕ) : Type 0 where
  pub never_falls : IsNonDecreasing keys
  pub few : length keys < 2 ^ 32
  pub heights : ys ≡ ys_of keys
