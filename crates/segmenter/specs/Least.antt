-- Segmentations, and that they are as few segments as lines can do.
use Rattle.std.specs.Prelude.{◌≡◌, ℕ, List}
use Rattle.exact_cross.specs.declared.segment.Segment.{Segment}
use Rattle.exact_cross.specs.Points.{Points}
use Rattle.exact_cross.specs.Segments.{starts_of, EachRun, IsFitted}
use Rattle.exact_cross.specs.Segmentation.{IsSegmentation}
use Rattle.exact_cross.specs.Checked.{IsLeastCover, AreChecked}

-- greedy segments of the places from..to, each with its steep pair, that pair's line
-- and its cut; the lines fit their runs, no cover of the range has fewer runs, and
-- segments of the whole list show by themselves that they are as few as lines can do
pub record IsLeastSegmentation (p : Points) (eps from to : ℕ) (segments : List Segment) : Type 0 where
  pub segmentation : IsSegmentation p eps from to segments
  pub fitted : EachRun (IsFitted p eps) to segments
  pub least : IsLeastCover p eps from to (starts_of segments)
  pub checked : from ≡ 0 → to ≡ p.count → AreChecked p eps segments
