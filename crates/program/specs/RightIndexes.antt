-- Whether a saved index is the one index of keys.
use Rattle.std.specs.Prelude.{◌≡◌, ℕ, List}
use Rattle.exact_cross.specs.declared.segment.Segment.{Segment}
use Rattle.levels.specs.Indexes.{AreLeast, IsIndex}
use Rattle.index_file.specs.Spelling.{SavedIndex}
use Rattle.index_file.specs.Checks.{saved_levels, IsFirstDifference}

-- it is the one index of the keys for its own error bounds, each of whose levels is a least cover
pub record IsRightIndex (keys : List ℕ) (saved : SavedIndex) : Type 0 where
  pub levels : List (List Segment)
  pub index : IsIndex keys saved.eps saved.eps_rec levels
  pub least : AreLeast keys saved.eps saved.eps_rec levels
  pub same : saved.levels ≡ saved_levels levels

-- it isn't, and this is the lowest level in which the two differ; one that only one of them has counts
pub record IsWrongIndex (keys : List ℕ) (saved : SavedIndex) (level : ℕ) : Type 0 where
  pub levels : List (List Segment)
  pub index : IsIndex keys saved.eps saved.eps_rec levels
  pub first : IsFirstDifference saved.levels (saved_levels levels) level
