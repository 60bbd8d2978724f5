-- The text of `build`.
use Rattle.std.specs.Prelude.{◌≡◌, ℕ, List, [], ◌∷◌, Option, None}
use Rattle.exact_cross.specs.declared.segment.Segment.{Segment}
use Rattle.levels.specs.Indexes.{IsIndex}
use Rattle.commands.specs.Tasks.{Bounds}
use Rattle.commands.specs.Texts.Indexing.{level_line_of, tells_levels}

-- level i: its text line
abbrev pub built_level : List ℕ → Bounds → Option ℕ → List (List Segment) → ℕ → List (List ℕ)
built_level keys bounds slack levels i = level_line_of keys bounds slack levels i ∷ []

-- the index of the keys: how many keys and levels, and a text line for each level
pub record IsBuilt (keys : List ℕ) (bounds : Bounds) (pieces : List (List ℕ)) : Type 0 where
  pub levels : List (List Segment)
  pub index : IsIndex keys bounds.eps bounds.eps_rec levels
  pub told : pieces ≡ tells_levels keys levels (built_level keys bounds None levels)
