-- A segment as C sees it.
use Rattle.std.specs.Prelude.{ℕ, Option, Some, None}
use Rattle.exact_cross.specs.declared.segment.Segment.{Segment}
use Rattle.exact_cross.specs.declared.segment.Witness.{Witness}
use Rattle.exact_cross.specs.declared.segment.Side.{Side}
use Rattle.exact_cross.specs.declared.segment.Side.TheVariants.{Over, Under}
use Rattle.kuldebiq.specs.declared.segment_parts.SegmentParts.{SegmentParts}

-- 1 where the place that was left out lies over all lines, 2 where it lies under
abbrev pub side_number : Side → ℕ
side_number Over = 1
side_number Under = 2

-- what shows that the run had to end; a run that has nothing to show has side 0 and places 0
abbrev pub side_of : Option Witness → ℕ
side_of None = 0
side_of (Some witness) = side_number witness.side

abbrev pub p_of : Option Witness → ℕ
p_of None = 0
p_of (Some witness) = witness.p

abbrev pub q_of : Option Witness → ℕ
q_of None = 0
q_of (Some witness) = witness.q

abbrev pub r_of : Option Witness → ℕ
r_of None = 0
r_of (Some witness) = witness.r

-- the parts of a segment
abbrev pub parts_of : Segment → SegmentParts
parts_of segment = record {
  start = segment.start;
  a = segment.a;
  b = segment.b;
  side = side_of segment.cut;
  p = p_of segment.cut;
  q = q_of segment.cut;
  r = r_of segment.cut;
  x0 = segment.line.x0;
  y0 = segment.line.y0;
  rise = segment.line.rise;
  run = segment.line.run;
}
