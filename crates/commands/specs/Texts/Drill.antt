-- The text of `drill`.
use Rattle.std.specs.Prelude.{◌≡◌, ℕ, List, [], ◌∷◌, length, map, sum, codes, decimal}
use Rattle.exact_cross.specs.declared.segment.Segment.{Segment}
use Rattle.exact_cross.specs.IndexLevels.{level_at}
use Rattle.levels.specs.Indexes.{IsIndex}
use Rattle.key_points.specs.KeyPoints.{distinct_of}
use Rattle.window_search.specs.Searches.{lb}
use Rattle.boxes.specs.PointCodes.{AreSortedCodes}
use Rattle.boxes.specs.BoxAnswers.{IsLooked, codes_inside}
use Rattle.log_levels.specs.Maps.{map_after}
use Rattle.drill_inputs.specs.Inputs.{keys_of, finds_of, coordinates_of, updates_of, searched_region}
use Rattle.written.specs.TextLines.{text_line}
use Rattle.commands.specs.declared.drill.Counts.{Counts}
use Rattle.commands.specs.Tasks.{Bounds}

-- what is counted of the inputs that are drawn: of the keys how
-- many are distinct, and how many levels and runs of level 0 their
-- index has; the sum of the positions of the questions; how many
-- points are in the region, and at how many places is looked; and
-- how many keys the map has after the updates
pub record IsCounted (n seed : ℕ) (bounds : Bounds) (counts : Counts) : Type 0 where
  pub distinct : counts.distinct ≡ length (distinct_of (keys_of n seed))
  pub levels : List (List Segment)
  pub index : IsIndex (keys_of n seed) bounds.eps bounds.eps_rec levels
  pub level_count : counts.levels ≡ length levels
  pub runs : counts.runs ≡ length (level_at levels 0)
  pub sum : counts.sum ≡ sum (map (lb (keys_of n seed)) (finds_of n seed))
  pub sorted : List ℕ
  pub codes : AreSortedCodes 2 (coordinates_of n seed) sorted
  pub found : counts.found ≡ length (codes_inside searched_region sorted)
  pub looked : IsLooked searched_region sorted counts.looked
  pub live : counts.live ≡ length (map_after (updates_of n seed))

-- `drill N SEED`
abbrev pub drill_line : (n seed : ℕ) → List ℕ
drill_line n seed = text_line (codes "drill" ∷ decimal n ∷ decimal seed ∷ [])

-- `keys N distinct M levels L runs R`
abbrev pub index_line : (n distinct levels runs : ℕ) → List ℕ
index_line n distinct levels runs =
    text_line (codes "keys" ∷ decimal n ∷ codes "distinct" ∷ decimal distinct ∷ codes "levels" ∷ decimal levels
    ∷ codes "runs" ∷ decimal runs ∷ [])

-- `finds N sum SUM`
abbrev pub finds_line : (n sum : ℕ) → List ℕ
finds_line n sum = text_line (codes "finds" ∷ decimal n ∷ codes "sum" ∷ decimal sum ∷ [])

-- `points N found F looked P`
abbrev pub points_line : (n found looked : ℕ) → List ℕ
points_line n found looked =
    text_line (codes "points" ∷ decimal n ∷ codes "found" ∷ decimal found ∷ codes "looked" ∷ decimal looked ∷ [])

-- `updates N live C`
abbrev pub updates_line : (n live : ℕ) → List ℕ
updates_line n live = text_line (codes "updates" ∷ decimal n ∷ codes "live" ∷ decimal live ∷ [])

abbrev pub drill_lines : (n seed : ℕ) → Counts → List (List ℕ)
drill_lines n seed counts =
    drill_line n seed
    ∷ index_line n counts.distinct counts.levels counts.runs
    ∷ finds_line n counts.sum
    ∷ points_line n counts.found counts.looked
    ∷ updates_line n counts.live
    ∷ []

-- what is counted is told
pub record IsDrilled (n seed : ℕ) (bounds : Bounds) (pieces : List (List ℕ)) : Type 0 where
  pub counts : Counts
  pub counted : IsCounted n seed bounds counts
  pub told : pieces ≡ drill_lines n seed counts
