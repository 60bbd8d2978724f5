-- One run of all places, and the places that lie highest and lowest beside a line. No public clause cites it.
use Rattle.std.specs.Prelude.{◌≡◌, ℕ, ◌+◌, ◌*◌, ◌-◌, ◌<◌, ◌≤◌, None}
use Rattle.exact_cross.specs.declared.segment.Segment.{Segment}
use Rattle.exact_cross.specs.Points.{Points}
use Rattle.exact_cross.specs.Lines.{SomeLineFits}
use Rattle.exact_cross.specs.Segments.{IsSteepSegment}
use Rattle.segmenter.specs.declared.whole.Extremes.{Extremes}

-- the segment of a run that is all places s..e
pub record IsWhole (p : Points) (eps s e : ℕ) (segment : Segment) : Type 0 where
  pub some : s < e
  pub start : segment.start ≡ s
  pub no_cut : segment.cut ≡ None
  pub steep : IsSteepSegment p eps segment e
  pub fits : SomeLineFits p eps s e

-- how high a point lies beside lines of a slope, times their run, up to a summand that is the same for all points
abbrev pub height : ℕ → ℕ → ℕ → ℕ → ℕ
height rise run x y = y * run + rise * (18446744073709551615 - x)

-- how high a place lies beside the line
abbrev pub height_of : Points → Extremes → ℕ → ℕ
height_of p found j = height found.line.rise found.line.run (p.x j) (p.y j)

-- of the places s..e before `upto` the top place is the first of the highest
-- and the bottom place the first of the lowest, unless these lie further on
pub record AreExtremes (p : Points) (s e upto : ℕ) (found : Extremes) : Type 0 where
  pub top_from : s ≤ found.top
  pub top_to : found.top < e
  pub top_is : found.top_height ≡ height_of p found found.top
  pub highest : (j : ℕ) → s ≤ j → j < upto → height_of p found j ≤ found.top_height
  pub first_top : (j : ℕ) → s ≤ j → j < upto → j < found.top → height_of p found j < found.top_height
  pub bottom_from : s ≤ found.bottom
  pub bottom_to : found.bottom < e
  pub bottom_is : found.bottom_height ≡ height_of p found found.bottom
  pub lowest : (j : ℕ) → s ≤ j → j < upto → found.bottom_height ≤ height_of p found j
  pub first_bottom : (j : ℕ) → s ≤ j → j < upto → j < found.bottom → found.bottom_height < height_of p found j

-- the places lie lower than the highest one and higher than the lowest one
pub record IsBetween (p : Points) (from to : ℕ) (found : Extremes) : Type 0 where
  pub below : (j : ℕ) → from ≤ j → j < to → height_of p found j < found.top_height
  pub above : (j : ℕ) → from ≤ j → j < to → found.bottom_height < height_of p found j
