-- What a checker looks at in one run.
use Rattle.std.specs.Prelude.{ℕ, ◌<◌}
use Rattle.exact_cross.specs.declared.segment.Segment.{Segment}
use Rattle.exact_cross.specs.Points.{Points}
use Rattle.exact_cross.specs.Segments.{IsFitted}
use Rattle.exact_cross.specs.Checked.{IsInRange, IsCutIfAny}

-- the run from the segment's start to `e` has a place or more, a
-- line in range that fits it, and a cut that holds, if it has one
pub record IsShownRun (p : Points) (eps to : ℕ) (segment : Segment) (e : ℕ) : Type 0 where
  pub some : segment.start < e
  pub in_range : IsInRange segment.line
  pub fitted : IsFitted p eps segment e
  pub cut : IsCutIfAny p eps to segment e
