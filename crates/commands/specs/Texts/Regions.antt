-- The text of `box`.
use Rattle.std.specs.Prelude.{◌≡◌, ℕ, List, [], ◌∷◌, length, map, codes, decimal}
use Rattle.zorder.specs.declared.regions.Region.{Region}
use Rattle.boxes.specs.PointCodes.{AreSortedCodes}
use Rattle.boxes.specs.BoxAnswers.{IsLooked, codes_inside}
use Rattle.written.specs.TextLines.{text_line}
use Rattle.commands.specs.Texts.Coordinates.{coordinate_words}
use Rattle.written.specs.InTurn.{TellsEach}

-- `box FOUND LOOKED`
abbrev pub box_line : (found looked : ℕ) → List ℕ
box_line found looked = text_line (codes "box" ∷ decimal found ∷ decimal looked ∷ [])

-- `point CODE C_1 .. C_d`
abbrev pub point_line : (d code : ℕ) → List ℕ
point_line d code = text_line (codes "point" ∷ decimal code ∷ coordinate_words d code d)

-- the text lines of a region: how many points are inside and how
-- many places are looked at, and each point inside, by rising code
abbrev pub TellsRegion : List ℕ → Region → List (List ℕ) → Type 0
TellsRegion sorted region pieces = (looked : ℕ) × IsLooked region sorted looked
    × (pieces ≡ box_line (length (codes_inside region sorted)) looked
    ∷ map (point_line region.d) (codes_inside region sorted))

-- each region in turn, over the sorted codes of the points
pub record IsSearched (d : ℕ) (coords : List ℕ) (regions : List Region) (pieces : List (List ℕ)) : Type 0 where
  pub sorted : List ℕ
  pub codes : AreSortedCodes d coords sorted
  pub told : TellsEach (TellsRegion sorted) regions pieces
