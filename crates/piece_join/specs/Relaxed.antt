-- Pieces put side by side.
use Rattle.std.specs.Prelude.{◌≡◌, ℕ, List, [], ◌∷◌, ◌++◌}
use Rattle.exact_cross.specs.declared.segment.Segment.{Segment}
use Rattle.exact_cross.specs.Points.{Points}
use Rattle.exact_cross.specs.Segmentation.{IsSegmentation}

-- the segmentation of each piece by itself, in order: of from..to,
-- or up to the first cut and then of the pieces from there on
abbrev pub IsRelaxed : Points → ℕ → ℕ → ℕ → List ℕ → List Segment → Type 0
IsRelaxed p eps from to [] segments = IsSegmentation p eps from to segments
IsRelaxed p eps from to (cut ∷ later) segments =
    (piece : List Segment) × (rest : List Segment)
    × (segments ≡ piece ++ rest) × IsSegmentation p eps from cut piece × IsRelaxed p eps cut to later rest
