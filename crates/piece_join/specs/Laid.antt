-- Runs with their lines, as far as a lookup and a checker need them.
use Rattle.std.specs.Prelude.{ℕ, List}
use Rattle.exact_cross.specs.declared.segment.Segment.{Segment}
use Rattle.exact_cross.specs.Points.{Points}
use Rattle.exact_cross.specs.Covers.{IsCover}
use Rattle.exact_cross.specs.Segments.{starts_of, EachRun, IsSteepSegment}
use Rattle.exact_cross.specs.Checked.{IsCutIfAny}

-- runs that cover the places from..to, each with its steep pair, that pair's line and, if any, its cut
pub record IsLaid (p : Points) (eps from to : ℕ) (segments : List Segment) : Type 0 where
  pub cover : IsCover p eps from to (starts_of segments)
  pub steep : EachRun (IsSteepSegment p eps) to segments
  pub cut : EachRun (IsCutIfAny p eps p.count) to segments
