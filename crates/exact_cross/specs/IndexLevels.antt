-- The one index over a list of points: levels of segments, each over the first x of the runs below it.
-- Source: P. Ferragina and G. Vinciguerra, The PGM-index, PVLDB 13(8), 2020, section 2.
use Rattle.std.specs.Prelude.{◌≡◌, ◌≢◌, ◌==◌, if◌then◌else◌, ℕ, zero, suc, ◌+◌, ◌<◌}
use Rattle.std.specs.Prelude.{List, [], length, map, slice_index, slice_index_or}
use Rattle.exact_cross.specs.declared.segment.Segment.{Segment}
use Rattle.exact_cross.specs.Points.{Points, points_of, places}
use Rattle.exact_cross.specs.Segmentation.{IsSegmentation}

-- the first x of each run
abbrev pub first_xs : List ℕ → List Segment → List ℕ
first_xs xs segments = map (λ segment. slice_index xs segment.start) segments

-- the segments of level i, counted from the lowest
abbrev pub level_at : List (List Segment) → ℕ → List Segment
level_at levels i = slice_index_or levels i []

-- the x of level i: at level 0 those of the points, and above the first x of the runs below
unfoldable pub level_xs : List ℕ → List (List Segment) → ℕ → List ℕ
level_xs xs levels zero = xs
level_xs xs levels (suc i) = first_xs (level_xs xs levels i) (level_at levels i)

-- the y of level i: at level 0 those of the points, and above the places
unfoldable pub level_ys : List ℕ → List (List Segment) → ℕ → List ℕ
level_ys ys levels zero = ys
level_ys ys levels (suc i) = places (length (level_at levels i))

-- the points of level i
abbrev pub level_points : List ℕ → List ℕ → List (List Segment) → ℕ → Points
level_points xs ys levels i = points_of (level_xs xs levels i) (level_ys ys levels i)

-- the error bound of level i
abbrev pub eps_at : ℕ → ℕ → ℕ → ℕ
eps_at eps eps_rec i = if i == 0 then eps else eps_rec

-- the segments of level i are the segmentation of its points
abbrev pub IsLevelOver : (xs ys : List ℕ) (eps eps_rec : ℕ) (levels : List (List Segment)) (i : ℕ) → Type 0
IsLevelOver xs ys eps eps_rec levels i =
    IsSegmentation
    (level_points xs ys levels i) (eps_at eps eps_rec i) 0 (length (level_xs xs levels i)) (level_at levels i)

-- over so many points, levels each of which is so, by its number,
-- and the last one is the first of one run; no point, no level
pub record AreLevelled (IsSo : ℕ → Type 0) (points : ℕ) (levels : List (List Segment)) : Type 0 where
  pub none : points ≡ 0 → length levels ≡ 0
  pub some : 0 < points → 0 < length levels
  pub each : (i : ℕ) → i < length levels → IsSo i
  pub last : (i : ℕ) → i + 1 ≡ length levels → length (level_at levels i) ≡ 1
  pub others : (i : ℕ) → i + 1 < length levels → length (level_at levels i) ≢ 1

-- the index: each level is the segmentation of its points
abbrev pub IsIndexOver : (xs ys : List ℕ) (eps eps_rec : ℕ) (levels : List (List Segment)) → Type 0
IsIndexOver xs ys eps eps_rec levels = AreLevelled (λ i. IsLevelOver xs ys eps eps_rec levels i) (length xs) levels
