-- Segments, by the runs that their starts cut.
use Rattle.std.specs.Prelude.{◌≡◌, ◌<◌, ℕ, zero, suc, List, [], ◌∷◌, map}
use Rattle.exact_cross.specs.declared.segment.Segment.{Segment}
use Rattle.exact_cross.specs.Points.{Points}
use Rattle.exact_cross.specs.Lines.{FitsRun, rational}
use Rattle.exact_cross.specs.Covers.{run_end}
use Rattle.exact_cross.specs.Steep.{IsSteepOf, line_of_pair}

-- the starts of segments
abbrev pub starts_of : List Segment → List ℕ
starts_of segments = map (λ segment. segment.start) segments

-- where the run of the segment at this place starts, and past the last one where all end
abbrev pub start_at : ℕ → List Segment → ℕ → ℕ
start_at to [] k = to
start_at to (segment ∷ later) zero = segment.start
start_at to (segment ∷ later) (suc k) = start_at to later k

-- each segment, with the end of its run, is an R
abbrev pub EachRun : (Segment → ℕ → Type 0) → ℕ → List Segment → Type 0
EachRun R to [] = Unit {0}
EachRun R to (segment ∷ later) = R segment (run_end (starts_of later) to) × EachRun R to later

-- the segment's pair is the steep pair of its run, and its line is that pair's
pub record IsSteepSegment (p : Points) (eps : ℕ) (segment : Segment) (e : ℕ) : Type 0 where
  pub pair : IsSteepOf p eps segment.start e segment.a segment.b
  pub line : segment.line ≡ line_of_pair p eps segment.a segment.b

-- the segment's line is within eps at every place of its run
pub record IsFitted (p : Points) (eps : ℕ) (segment : Segment) (e : ℕ) : Type 0 where
  pub positive : 0 < segment.line.run
  pub fits : FitsRun p eps (rational segment.line positive) segment.start e
