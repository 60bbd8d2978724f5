-- What hints are, and how many lines they have.
use Rattle.std.specs.Prelude.{◌≡◌, ℕ, ◌+◌, ◌*◌, ◌≤◌, List, length, slice_index}
use Rattle.exact_cross.specs.Points.{points_of}
use Rattle.exact_cross.specs.Checked.{IsLeastCover}
use Rattle.key_points.specs.KeyPoints.{xs_of, ys_of}
use Rattle.hints.specs.declared.hint_list.TheConstants.{FORMAT, HEAD_LEN}

-- there are as many lines as the least cover of the keys' points has runs
pub record HaveLeastLines (keys : List ℕ) (eps : ℕ) (hints : List ℕ) : Type 0 where
  pub starts : List ℕ
  pub cover : IsLeastCover (points_of (xs_of keys) (ys_of keys)) eps 0 (length (xs_of keys)) starts
  pub count : slice_index hints 2 ≡ length starts

-- the hints are in the format, with this error bound: the head's six, as many of
-- the table as number 3 says, and three for each of the lines that number 2 counts
pub record AreInFormat (eps : ℕ) (hints : List ℕ) : Type 0 where
  pub known : slice_index hints 0 ≡ FORMAT
  pub bound : slice_index hints 1 ≡ eps
  pub long : length hints ≡ HEAD_LEN + slice_index hints 3 + 3 * slice_index hints 2

-- there are at most 6 numbers, and five for each line
abbrev pub AreFew : List ℕ → Type 0
AreFew hints = length hints ≤ 6 + 5 * slice_index hints 2
