-- A segmentation that is begun. No public clause cites it.
use Rattle.std.specs.Prelude.{ℕ, List}
use Rattle.exact_cross.specs.declared.segment.Segment.{Segment}
use Rattle.exact_cross.specs.Points.{Points}
use Rattle.exact_cross.specs.Covers.{CutsInto, IsLongest}
use Rattle.exact_cross.specs.Segments.{starts_of, EachRun, IsSteepSegment}
use Rattle.exact_cross.specs.Cuts.{HasItsCut}

-- the first segments of the places from..to, whose runs reach from there to the place at
pub record IsBegun (p : Points) (eps from to at : ℕ) (segments : List Segment) : Type 0 where
  pub greedy : CutsInto (IsLongest p eps to) from at (starts_of segments)
  pub steep : EachRun (IsSteepSegment p eps) at segments
  pub cuts : EachRun (HasItsCut p eps to) at segments
