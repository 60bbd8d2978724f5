-- The segmentation of a range of points.
use Rattle.std.specs.Prelude.{ℕ, List}
use Rattle.exact_cross.specs.declared.segment.Segment.{Segment}
use Rattle.exact_cross.specs.Points.{Points}
use Rattle.exact_cross.specs.Covers.{IsGreedy}
use Rattle.exact_cross.specs.Segments.{starts_of, EachRun, IsSteepSegment}
use Rattle.exact_cross.specs.Cuts.{HasItsCut}

-- greedy segments of the places from..to, each with its steep pair, that pair's line and its cut
pub record IsSegmentation (p : Points) (eps from to : ℕ) (segments : List Segment) : Type 0 where
  pub greedy : IsGreedy p eps from to (starts_of segments)
  pub steep : EachRun (IsSteepSegment p eps) to segments
  pub cuts : EachRun (HasItsCut p eps to) to segments
