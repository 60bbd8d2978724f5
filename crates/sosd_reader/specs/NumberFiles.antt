-- Files of numbers: a count, and then numbers. There are two kinds: keys
-- in order (SOSD; Kipf et al., 2019), and the coordinates of points.
use Rattle.std.specs.Prelude.{◌≡◌, ◌⊎◌, ℕ, ◌-◌, ◌*◌, ◌^◌, ◌<◌, ◌≤◌, List, ◌++◌, length, slice_index, All}
use Rattle.std.specs.List.{flat_map}
use Rattle.byteorder.specs.Endian.{little_bytes}
use Rattle.zorder.specs.Codes.{IsDimension, coordinate_bits}

-- keys of a width in bytes, or points of so many coordinates
pub data Kind : Type 0 where
  of_keys : ℕ → Kind
  of_points : ℕ → Kind

-- the kinds that there are: keys of 4 or 8 bytes, and points of two, three or four coordinates
abbrev pub IsKind : Kind → Type 0
IsKind (of_keys width) = (width ≡ 4) ⊎ (width ≡ 8)
IsKind (of_points d) = IsDimension d

-- which of the two
abbrev pub IsOfKeys : Kind → Type 0
IsOfKeys (of_keys width) = Unit {0}
IsOfKeys (of_points d) = ⊥

abbrev pub IsOfPoints : Kind → Type 0
IsOfPoints (of_keys width) = ⊥
IsOfPoints (of_points d) = Unit {0}

-- how many bytes a number has
abbrev pub number_width : Kind → ℕ
number_width (of_keys width) = width
number_width (of_points d) = 4

-- how many numbers stand in the file for each one that its count counts
abbrev pub numbers_each : Kind → ℕ
numbers_each (of_keys width) = 1
numbers_each (of_points d) = d

-- a number may stand after the one before it: a key is not below that, and a coordinate is in range
abbrev pub Follows : Kind → ℕ → ℕ → Type 0
Follows (of_keys width) before number = before ≤ number
Follows (of_points d) before number = number < 2 ^ coordinate_bits d

-- or it may not
abbrev pub Fails : Kind → ℕ → ℕ → Type 0
Fails (of_keys width) before number = number < before
Fails (of_points d) before number = 2 ^ coordinate_bits d ≤ number

-- each number may stand after the one before it; the first one, which has none, is judged after itself
abbrev pub AllFollow : Kind → List ℕ → Type 0
AllFollow kind numbers =
    (j : ℕ) → j < length numbers → Follows kind (slice_index numbers (j - 1)) (slice_index numbers j)

-- the numbers are as many as a count below 2 ^ 32 says, each may stand where it does, and each fits its width
pub record AreNumbersOf (kind : Kind) (count : ℕ) (numbers : List ℕ) : Type 0 where
  pub few : count < 2 ^ 32
  pub whole : length numbers ≡ numbers_each kind * count
  pub all_follow : AllFollow kind numbers
  pub each_fits : All (λ number. number < 256 ^ number_width kind) numbers

-- a count in 8 bytes, and then each number, the lowest byte first
abbrev pub number_file : Kind → ℕ → List ℕ → List ℕ
number_file kind count numbers = little_bytes 8 count ++ flat_map (little_bytes (number_width kind)) numbers

-- the bytes are the file of these numbers
pub record IsFileOf (kind : Kind) (numbers bytes : List ℕ) : Type 0 where
  pub count : ℕ
  pub are : AreNumbersOf kind count numbers
  pub written : bytes ≡ number_file kind count numbers
