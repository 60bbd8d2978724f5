-- Segments, a run at a time, and that all of them are as few as lines can do.
use Rattle.std.proofs.Common.{◌≡◌, ℕ, ◌<◌, ◌≤◌, ◌^◌, List, [], ◌∷◌, ◌++◌, refl, arith}
use Rattle.exact_cross.specs.declared.segment.Segment.{Segment}
use Rattle.exact_cross.specs.Points.{Points, IsAscending}
use Rattle.exact_cross.specs.Lines.{SomeLineFits}
use Rattle.exact_cross.specs.Covers.{CutsInto, IsLongest}
use Rattle.exact_cross.specs.Segments.{starts_of, EachRun, IsSteepSegment, IsFitted}
use Rattle.exact_cross.specs.Cuts.{HasItsCut}
use Rattle.exact_cross.specs.Checked.{IsInRange}
use Rattle.exact_cross.proofs.CallerLemmas.{IsFitted-from_steep, IsInRange-from_steep, IsLeastCover-from_greedy}
use Rattle.exact_cross.proofs.CallerLemmas.{AreChecked-from_greedy, CutsInto-push, EachRun-push, starts_of-push}
use Rattle.segmenter.specs.Least.{IsLeastSegmentation}
use Rattle.segmenter.specs.Whole.{IsWhole}

-- what the segments of the places from..at are, in a segmentation of from..to
pub record AreSegments (p : Points) (eps from to at : ℕ) (segments : List Segment) : Type 0 where
  pub greedy : CutsInto (IsLongest p eps to) from at (starts_of segments)
  pub steep : EachRun (IsSteepSegment p eps) at segments
  pub fitted : EachRun (IsFitted p eps) at segments
  pub cuts : EachRun (HasItsCut p eps to) at segments
  pub in_range : EachRun (λ segment e. IsInRange segment.line) at segments

-- one run more
pub AreSegments-push : (p : Points) (eps from to at e : ℕ) (segments : List Segment) (segment : Segment) →
    IsAscending p → to ≤ p.count → ((j : ℕ) → j < p.count → p.y j < 2 ^ 32) → eps ≤ 1048576 →
    segment.start ≡ at →
    at < e → e ≤ to → IsLongest p eps to at e → IsSteepSegment p eps segment e → HasItsCut p eps to segment e →
    AreSegments p eps from to at segments → AreSegments p eps from to e (segments ++ segment ∷ [])
AreSegments-push
    p eps from to at e segments segment ascends inside fits_y bounded starts further within longest steep cut so_far =
    let begun : AreSegments p eps from to segment.start segments = rw starts so_far in
    let some : segment.start < e = omega (arith, starts, further) in
    let fits : SomeLineFits p eps segment.start e = rw starts longest.fits in
    record {
      greedy = rw (starts_of-push segments segment, starts)
          (CutsInto-push (IsLongest p eps to) (starts_of segments) from at e so_far.greedy further longest);
      steep = EachRun-push (IsSteepSegment p eps) segments segment e begun.steep steep;
      fitted = EachRun-push (IsFitted p eps) segments segment e begun.fitted
          (IsFitted-from_steep p eps e segment ascends some (omega arith) steep fits);
      cuts = EachRun-push (HasItsCut p eps to) segments segment e begun.cuts cut;
      in_range = EachRun-push (λ segment e. IsInRange segment.line) segments segment e begun.in_range
          (IsInRange-from_steep p eps e segment ascends fits_y bounded some (omega arith) steep);
    }

-- one segment of all places is such a list alone
pub AreSegments-whole : (p : Points) (eps from to : ℕ) (segment : Segment) →
    IsAscending p → to ≤ p.count → ((j : ℕ) → j < p.count → p.y j < 2 ^ 32) → eps ≤ 1048576 →
    IsWhole p eps from to segment → AreSegments p eps from to to (segment ∷ [])
AreSegments-whole p eps from to segment ascends inside fits_y bounded whole =
    AreSegments-push p eps from to from to [] segment ascends inside fits_y bounded whole.start whole.some (omega arith)
    (record { fits = whole.fits; no_longer = λ more. absurd (omega (arith, more)) }) whole.steep
    (record { last = λ at_end. whole.no_cut; other = λ more. absurd (omega (arith, more)) })
    (record { greedy = refl; steep = tt; fitted = tt; cuts = tt; in_range = tt })

-- all of them are as few as lines can do
pub IsLeastSegmentation-whole : (p : Points) (eps from to : ℕ) (segments : List Segment) →
    AreSegments p eps from to to segments → IsLeastSegmentation p eps from to segments
IsLeastSegmentation-whole p eps from to segments h = record {
  segmentation = record { greedy = h.greedy; steep = h.steep; cuts = h.cuts };
  fitted = h.fitted;
  least = IsLeastCover-from_greedy p eps from to (starts_of segments) h.greedy;
  checked = λ whole_from whole_to.
      AreChecked-from_greedy p eps from to segments whole_from whole_to h.greedy h.in_range h.fitted h.cuts;
}
