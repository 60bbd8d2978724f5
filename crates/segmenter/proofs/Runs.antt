-- The run that the hulls stand for, as the longest run and its segment.
use Rattle.std.proofs.Common.{◌≡◌, ℕ, ◌+◌, ◌<◌, length, slice_index, Some, refl, sym, subst, arith}
use Rattle.exact_cross.specs.declared.segment.Witness.{Witness}
use Rattle.exact_cross.specs.declared.segment.Segment.{Segment}
use Rattle.exact_cross.specs.declared.points.PointList.{PointList}
use Rattle.exact_cross.specs.Points.{Points}
use Rattle.exact_cross.specs.PointLists.{points_in}
use Rattle.exact_cross.specs.Lines.{SomeLineFits}
use Rattle.exact_cross.specs.Covers.{IsLongest}
use Rattle.exact_cross.specs.Cuts.{IsCutOf, HasItsCut}
use Rattle.exact_cross.specs.declared.line.Line.{Line}
use Rattle.exact_cross.specs.Steep.{IsSteepOf}
use Rattle.exact_cross.specs.Segments.{IsSteepSegment}
use Rattle.hulls.specs.declared.flat.FlatLine.{FlatLine}
use Rattle.hulls.specs.FlatLines.{IsFlatLine, MeanRises}
use Rattle.hulls.proofs.FlattestLine.{MeanRises-from_lines}
use Rattle.hulls.specs.declared.fitting.Hulls.{Hulls}
use Rattle.hulls.specs.Hulls.{StandsFor, IsNext}

pub IsNext-place : (hulls : Hulls) (points : PointList) (eps s e : ℕ) →
    StandsFor hulls (points_in points) eps s e → e < length points.xs.now →
    IsNext hulls (points_in points) eps s e (slice_index points.xs.now e) (slice_index points.ys.now e)
IsNext-place hulls points eps s e stands inside = record { stands = stands; more = inside; at_x = refl; at_y = refl }

-- a run that ends at the range's end, or before a place that no line goes on to
pub IsLongest-whole : (hulls : Hulls) (p : Points) (eps to s : ℕ) → StandsFor hulls p eps s to → IsLongest p eps to s to
IsLongest-whole hulls p eps to s stands =
    record { fits = stands.fits; no_longer = λ more. absurd (omega (arith, more)) }

pub IsLongest-cut : (hulls : Hulls) (p : Points) (eps to s e : ℕ) →
    StandsFor hulls p eps s e → (SomeLineFits p eps s (e + 1) → ⊥) → IsLongest p eps to s e
IsLongest-cut hulls p eps to s e stands refused = record { fits = stands.fits; no_longer = λ more. refused }

pub HasItsCut-cut : (p : Points) (eps to start e : ℕ) (w : Witness) (segment : Segment) →
    segment.start ≡ start → segment.cut ≡ Some w → e < to → IsCutOf p eps start e w → HasItsCut p eps to segment e
HasItsCut-cut p eps to start e w segment starts cuts before own = record {
  last = λ at_end. absurd (omega arith);
  other = λ more. (w, cuts, subst (λ (s : ℕ). IsCutOf p eps s e w) (sym starts) own);
}

-- the mean of the segment's line and the flattest doesn't fall
pub MeanRises-of_run : (hulls : Hulls) (p : Points) (eps s e : ℕ) (segment : Segment) (flat : FlatLine) → StandsFor
    hulls p eps s e → segment.start ≡ s →
    IsSteepSegment p eps segment e → IsFlatLine p eps s e flat → MeanRises segment.line flat
MeanRises-of_run hulls p eps s e segment flat stands starts steep is =
    subst (λ (line : Line). MeanRises line flat) (sym steep.line)
    (MeanRises-from_lines p eps s e segment.a segment.b flat stands.ascends stands.steep.pair.some stands.inside
    (subst (λ (n : ℕ). IsSteepOf p eps n e segment.a segment.b) starts steep.pair) is)
