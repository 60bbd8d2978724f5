-- The text of `save`: a saved index, as bytes.
use Rattle.std.specs.Prelude.{◌≡◌, ℕ, List, ◌∷◌, length, map}
use Rattle.std.specs.List.{concat}
use Rattle.exact_cross.specs.declared.segment.Segment.{Segment}
use Rattle.levels.specs.Indexes.{AreLeast, IsIndex}
use Rattle.index_file.specs.Spelling.{head_bytes, level_bytes, IsSpelling}
use Rattle.index_file.specs.Spelled.{saved_run}
use Rattle.index_file.specs.Checks.{saved_levels}
use Rattle.commands.specs.Tasks.{Bounds}

-- each level as one piece
abbrev pub level_pieces : List (List Segment) → List (List ℕ)
level_pieces levels = map (λ segments. level_bytes (map saved_run segments)) levels

-- the head, and then the levels
abbrev pub saved_pieces : Bounds → List (List Segment) → List (List ℕ)
saved_pieces bounds levels = head_bytes bounds.eps bounds.eps_rec (length levels) ∷ level_pieces levels

-- the one index of the keys, each of whose levels is a least cover: the pieces together are its spelling
pub record IsSaved (keys : List ℕ) (bounds : Bounds) (pieces : List (List ℕ)) : Type 0 where
  pub levels : List (List Segment)
  pub index : IsIndex keys bounds.eps bounds.eps_rec levels
  pub least : AreLeast keys bounds.eps bounds.eps_rec levels
  pub told : pieces ≡ saved_pieces bounds levels
  pub spelled :
      IsSpelling (record { eps = bounds.eps; eps_rec = bounds.eps_rec; levels = saved_levels levels }) (concat pieces)
