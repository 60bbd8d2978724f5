-- Points, over which all of the geometry is said.
use Rattle.std.specs.Prelude.{ℕ, ◌<◌, ◌≤◌, List, length, slice_index}
use Rattle.std.specs.List.{range_with_len}

-- a list of points: how many there are, and the coordinates of each place
pub record Points : Type 0 where
  pub count : ℕ
  pub x : ℕ → ℕ
  pub y : ℕ → ℕ

-- from left to right, and never down
pub record IsAscending (p : Points) : Type 0 where
  pub x_rises : (i j : ℕ) → i < j → j < p.count → p.x i < p.x j
  pub y_never_falls : (i j : ℕ) → i ≤ j → j < p.count → p.y i ≤ p.y j

-- the points of two lists: each x with the y at its place
abbrev pub points_of : List ℕ → List ℕ → Points
points_of xs ys = record { count = length xs; x = slice_index xs; y = slice_index ys }

-- the places 0, 1, .. of a list of this length
abbrev pub places : ℕ → List ℕ
places n = range_with_len 0 n

-- the points of a key list: each key with its rank
abbrev pub points_of_keys : List ℕ → Points
points_of_keys keys = points_of keys (places (length keys))
