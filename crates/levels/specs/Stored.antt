-- How an index is kept.
use Rattle.std.specs.Prelude.{◌≡◌, ◌≢◌, ℕ, ◌+◌, ◌<◌, ◌≤◌, ◌^◌, List, length, map, slice_index_or}
use Rattle.std.specs.List.Sorted.{IsNonDecreasing}
use Rattle.exact_cross.specs.declared.segment.Segment.{Segment}
use Rattle.exact_cross.specs.declared.TheConstants.{MAX_EPSILON}
use Rattle.levels.specs.declared.level.Level.{Level}
use Rattle.exact_cross.specs.Segmentation.{IsSegmentation}
use Rattle.exact_cross.specs.IndexLevels.{level_at, eps_at}
use Rattle.levels.specs.Indexes.{PgmIndex, IsLaidIndex, IsLaidLevel, xs_at, points_at}
use Rattle.levels.specs.Models.{AreModels}

-- the segments of each level
abbrev pub segments_of : List Level → List (List Segment)
segments_of levels = map (λ level. level.segments.items) levels

-- the index that these levels are, over a file's keys and with these error bounds
abbrev pub index_of : List ℕ → ℕ → ℕ → List Level → PgmIndex
index_of keys eps eps_rec levels = record { keys = keys; eps = eps; eps_rec = eps_rec; levels = segments_of levels }

-- the first levels over sorted keys: each covers its points, those above level 0 by their segmentation, and
-- those below the last have more runs than one; each run has its model, and above level 0 the list of x is kept
pub record AreLevels (keys : List ℕ) (eps eps_rec : ℕ) (levels : List Level) : Type 0 where
  pub never_falls : IsNonDecreasing keys
  pub few : length keys < 2 ^ 32
  pub bounded : eps ≤ MAX_EPSILON
  pub bounded_rec : eps_rec ≤ MAX_EPSILON
  pub each : (i : ℕ) → i < length levels → IsLaidLevel keys eps eps_rec (segments_of levels) i
  pub others : (i : ℕ) → i + 1 < length levels → length (level_at (segments_of levels) i) ≢ 1
  pub models : (i : ℕ) (d : Level) → i < length levels →
      AreModels
      (points_at keys (segments_of levels) i) (eps_at eps eps_rec i) (length (xs_at keys (segments_of levels) i))
      (level_at (segments_of levels) i) (slice_index_or levels i d).models.items
  pub kept : (i : ℕ) (d : Level) →
      0 < i → i < length levels → (slice_index_or levels i d).xs.items ≡ xs_at keys (segments_of levels) i

-- all levels
pub record AreStored (keys : List ℕ) (eps eps_rec : ℕ) (levels : List Level) : Type 0 where
  pub first : AreLevels keys eps eps_rec levels
  pub index : IsLaidIndex keys eps eps_rec (segments_of levels)

-- the level above those so far: the segmentation of the first x of the last one's runs, with its models and these x
pub record IsNextLevel (keys : List ℕ) (eps eps_rec : ℕ) (levels : List Level) (level : Level) : Type 0 where
  pub segments :
      IsSegmentation (points_at keys (segments_of levels) (length levels)) (eps_at eps eps_rec (length levels)) 0
      (length (xs_at keys (segments_of levels) (length levels))) level.segments.items
  pub models : AreModels (points_at keys (segments_of levels) (length levels)) (eps_at eps eps_rec (length levels))
      (length (xs_at keys (segments_of levels) (length levels))) level.segments.items level.models.items
  pub xs : level.xs.items ≡ xs_at keys (segments_of levels) (length levels)
