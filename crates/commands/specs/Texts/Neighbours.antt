-- The text of `near`.
use Rattle.std.specs.Prelude.{◌≡◌, ℕ, List, [], ◌∷◌, length, map, codes, decimal}
use Rattle.boxes.specs.PointCodes.{AreSortedCodes}
use Rattle.near.specs.Nearest.{IsNear, NearAnswer}
use Rattle.written.specs.TextLines.{text_line}
use Rattle.commands.specs.declared.task.Centre.{Centre}
use Rattle.commands.specs.Texts.Coordinates.{coordinate_words}
use Rattle.written.specs.InTurn.{TellsEach}

-- `near FOUND BOXES`
abbrev pub near_line : (found boxes : ℕ) → List ℕ
near_line found boxes = text_line (codes "near" ∷ decimal found ∷ decimal boxes ∷ [])

-- `point CODE DISTANCE C_1 .. C_d`
abbrev pub neighbour_line : ℕ → ℕ × ℕ → List ℕ
neighbour_line d (distance, code) =
    text_line (codes "point" ∷ decimal code ∷ decimal distance ∷ coordinate_words d code d)

-- the text lines of an answer: how many points it has and in how many boxes they are looked for, and each point
abbrev pub near_lines : ℕ → NearAnswer → List (List ℕ)
near_lines d answer = near_line (length answer.points) answer.boxes ∷ map (neighbour_line d) answer.points

-- those of a centre: of the points nearest to it, as many as are asked for, the nearest first
abbrev pub TellsNear : ℕ → List ℕ → Centre → List (List ℕ) → Type 0
TellsNear d sorted centre pieces =
    (answer : NearAnswer) × IsNear d centre.place sorted centre.count answer × (pieces ≡ near_lines d answer)

-- each centre in turn, over the sorted codes of the points
pub record IsNearest (d : ℕ) (coords : List ℕ) (centres : List Centre) (pieces : List (List ℕ)) : Type 0 where
  pub sorted : List ℕ
  pub codes : AreSortedCodes d coords sorted
  pub told : TellsEach (TellsNear d sorted) centres pieces
