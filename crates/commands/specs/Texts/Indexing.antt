-- What the commands over an index print alike: its keys, and its levels one after the other.
use Rattle.std.specs.Prelude.{◌==◌, if◌then◌else◌, ℕ, List, [], ◌∷◌, ◌++◌, length, codes, decimal, Option, None, Some}
use Rattle.std.specs.List.{flat_map, join_with_byte}
use Rattle.exact_cross.specs.declared.segment.Segment.{Segment}
use Rattle.exact_cross.specs.Points.{places}
use Rattle.exact_cross.specs.IndexLevels.{level_at, eps_at}
use Rattle.levels.specs.Indexes.{xs_at}
use Rattle.key_points.specs.KeyPoints.{distinct_of}
use Rattle.written.specs.TextLines.{text_line}
use Rattle.commands.specs.Tasks.{Bounds}

-- `keys N distinct M levels L`
abbrev pub keys_line : List ℕ → ℕ → List ℕ
keys_line keys levels =
    text_line (codes "keys" ∷ decimal (length keys) ∷ codes "distinct" ∷ decimal (length (distinct_of keys))
    ∷ codes "levels" ∷ decimal levels ∷ [])

-- ` slack S` where there is one, and byte 10
abbrev pub slack_ending : Option ℕ → List ℕ
slack_ending None = 10 ∷ []
slack_ending (Some slack) = 32 ∷ text_line (codes "slack" ∷ decimal slack ∷ [])

-- the slack of level 0, where it has one; the levels above have none
abbrev pub slack_at : Option ℕ → ℕ → Option ℕ
slack_at slack i = if i == 0 then slack else None

-- `level I list LENGTH eps E runs R`, and the slack where there is one
abbrev pub level_line : (i len eps runs : ℕ) → Option ℕ → List ℕ
level_line i len eps runs slack =
    join_with_byte 32 (codes "level" ∷ decimal i ∷ codes "list" ∷ decimal len ∷ codes "eps" ∷ decimal eps
    ∷ codes "runs" ∷ decimal runs ∷ []) ++ slack_ending slack

-- the one of level i, where level 0 has a slack or not
abbrev pub level_line_of : List ℕ → Bounds → Option ℕ → List (List Segment) → ℕ → List ℕ
level_line_of keys bounds slack levels i =
    level_line i (length (xs_at keys levels i)) (eps_at bounds.eps bounds.eps_rec i) (length (level_at levels i))
    (slack_at slack i)

-- the line of the keys, and then what is told of each level, the lowest first
abbrev pub tells_levels : List ℕ → List (List Segment) → (ℕ → List (List ℕ)) → List (List ℕ)
tells_levels keys levels told = keys_line keys (length levels) ∷ flat_map told (places (length levels))
