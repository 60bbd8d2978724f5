-- The text of `explain`.
use Rattle.std.specs.Prelude.{◌≡◌, ℕ, ◌<◌, List, [], ◌∷◌, ◌++◌, length, codes, decimal, Option, None, Some}
use Rattle.std.specs.Fmt.{signed_decimal}
use Rattle.std.specs.List.{join_with_byte}
use Rattle.exact_cross.specs.declared.segment.Segment.{Segment}
use Rattle.exact_cross.specs.declared.segment.Side.{Side}
use Rattle.exact_cross.specs.declared.segment.Side.TheVariants.{Over, Under}
use Rattle.exact_cross.specs.declared.segment.Witness.{Witness}
use Rattle.exact_cross.specs.Points.{Points}
use Rattle.exact_cross.specs.Covers.{run_end}
use Rattle.exact_cross.specs.Segments.{starts_of}
use Rattle.exact_cross.specs.Checked.{AreChecked, IsLeastCover}
use Rattle.exact_cross.specs.IndexLevels.{level_at, eps_at}
use Rattle.levels.specs.Indexes.{IsIndex, xs_at, points_at}
use Rattle.written.specs.TextLines.{text_line}
use Rattle.commands.specs.Tasks.{Bounds}
use Rattle.commands.specs.Texts.Indexing.{level_line_of, tells_levels}

-- no line cover has fewer runs, and the segments show it: each
-- run but the last ends with three places that no line fits
pub record IsShownLeast (p : Points) (eps : ℕ) (segments : List Segment) : Type 0 where
  pub least : IsLeastCover p eps 0 p.count (starts_of segments)
  pub shown : AreChecked p eps segments

abbrev pub side_word : Side → List ℕ
side_word Over = codes "over"
side_word Under = codes "under"

-- ` end`, ` cut over P Q R` or ` cut under P Q R`, and byte 10
abbrev pub ending : Option Witness → List ℕ
ending None = codes " end\n"
ending (Some w) = 32 ∷ text_line (codes "cut" ∷ side_word w.side ∷ decimal w.p ∷ decimal w.q ∷ decimal w.r ∷ [])

-- `run S E pair A B line X0 Y0 RISE RUN`, and how the run ends
abbrev pub run_line : Segment → ℕ → List ℕ
run_line segment end =
    join_with_byte 32 (codes "run" ∷ decimal segment.start ∷ decimal end
    ∷ codes "pair" ∷ decimal segment.a ∷ decimal segment.b
    ∷ codes "line" ∷ decimal segment.line.x0 ∷ signed_decimal segment.line.y0
    ∷ decimal segment.line.rise ∷ decimal segment.line.run ∷ [])
    ++ ending segment.cut

-- the text lines of the runs, the last of which ends at `to`
abbrev pub run_lines : List Segment → ℕ → List (List ℕ)
run_lines [] to = []
run_lines (segment ∷ later) to = run_line segment (run_end (starts_of later) to) ∷ run_lines later to

-- level i: its text line, and those of its runs
abbrev pub level_lines : List ℕ → Bounds → List (List Segment) → ℕ → List (List ℕ)
level_lines keys bounds levels i =
    level_line_of keys bounds None levels i ∷ run_lines (level_at levels i) (length (xs_at keys levels i))

-- the index of the keys: how many keys and levels, and each level with its runs, which are as few as lines can do
pub record IsExplained (keys : List ℕ) (bounds : Bounds) (pieces : List (List ℕ)) : Type 0 where
  pub levels : List (List Segment)
  pub index : IsIndex keys bounds.eps bounds.eps_rec levels
  pub least : (i : ℕ) → i < length levels →
      IsShownLeast (points_at keys levels i) (eps_at bounds.eps bounds.eps_rec i) (level_at levels i)
  pub told : pieces ≡ tells_levels keys levels (level_lines keys bounds levels)
