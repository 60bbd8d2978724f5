-- Segments that show by themselves that they are as few as lines can do.
use Rattle.std.specs.Prelude.{◌≡◌, ℕ, ◌+◌, ◌^◌, ◌<◌, ◌≤◌, pos, negsuc, ◌≤ℤ◌, ◌<ℤ◌}
use Rattle.std.specs.Prelude.{List, [], ◌∷◌, length, None, Some, is_none, cond}
use Rattle.exact_cross.specs.declared.line.Line.{Line}
use Rattle.exact_cross.specs.declared.segment.Witness.{Witness}
use Rattle.exact_cross.specs.declared.segment.Segment.{Segment}
use Rattle.exact_cross.specs.Points.{Points}
use Rattle.exact_cross.specs.Covers.{IsCover}
use Rattle.exact_cross.specs.Segments.{starts_of, EachRun, IsFitted}
use Rattle.exact_cross.specs.Witnesses.{IsWitness}

-- a line whose numbers are those that a segment's line can have
pub record IsInRange (line : Line) : Type 0 where
  pub positive : 1 ≤ line.run
  pub not_below : negsuc 1048575 ≤ℤ line.y0
  pub not_above : line.y0 <ℤ pos (2 ^ 32)
  pub not_too_steep : line.rise < 2 ^ 32 + 2 ^ 21

-- the starts rise from `from`, the first of them, and stay below `to`
abbrev pub StartsRise : ℕ → ℕ → List ℕ → Type 0
StartsRise from to [] = Unit {0}
StartsRise from to (start ∷ later) = (from ≤ start) × (start < to) × StartsRise (start + 1) to later

-- a run that ends before `to` has a cut at its end whose three places lie from its start on and are fitted by no line
pub record IsCutShort (p : Points) (eps to : ℕ) (segment : Segment) (e : ℕ) : Type 0 where
  pub last : e ≡ to → segment.cut ≡ None
  pub other : e < to → (w : Witness) × (segment.cut ≡ Some w) × IsWitness p eps w × (segment.start ≤ w.p) × (w.r ≡ e)

-- what a checker looks at: the starts, each run's line and each run's cut
pub record AreChecked (p : Points) (eps : ℕ) (segments : List Segment) : Type 0 where
  pub first : 0 < p.count →
      (segment : Segment) × (later : List Segment) × (segments ≡ segment ∷ later) × (segment.start ≡ 0)
  pub rise : StartsRise 0 p.count (starts_of segments)
  pub in_range : EachRun (λ segment e. IsInRange segment.line) p.count segments
  pub fitted : EachRun (IsFitted p eps) p.count segments
  pub cut : EachRun (IsCutShort p eps p.count) p.count segments

-- a cover than which no cover has fewer runs
pub record IsLeastCover (p : Points) (eps from to : ℕ) (starts : List ℕ) : Type 0 where
  pub cover : IsCover p eps from to starts
  pub least : (others : List ℕ) → IsCover p eps from to others → length starts ≤ length others

-- a cut, where a run has one, has three places that lie from its start on
-- to its end and are fitted by no line; the run that ends at `to` has none
pub record IsCutIfAny (p : Points) (eps to : ℕ) (segment : Segment) (e : ℕ) : Type 0 where
  pub last : e ≡ to → segment.cut ≡ None
  pub shown : (w : Witness) → segment.cut ≡ Some w → IsWitness p eps w × (segment.start ≤ w.p) × (w.r ≡ e)

-- what a checker looks at where runs may lack their cuts
pub record AreShown (p : Points) (eps : ℕ) (segments : List Segment) : Type 0 where
  pub first : 0 < p.count →
      (segment : Segment) × (later : List Segment) × (segments ≡ segment ∷ later) × (segment.start ≡ 0)
  pub rise : StartsRise 0 p.count (starts_of segments)
  pub in_range : EachRun (λ segment e. IsInRange segment.line) p.count segments
  pub fitted : EachRun (IsFitted p eps) p.count segments
  pub cut : EachRun (IsCutIfAny p eps p.count) p.count segments

-- how many segments have no cut
abbrev pub uncut : List Segment → ℕ
uncut [] = 0
uncut (segment ∷ later) = cond (is_none segment.cut) 1 0 + uncut later

-- a cover than which no cover has fewer runs, but by so many at most
pub record IsCoverWithin (slack : ℕ) (p : Points) (eps from to : ℕ) (starts : List ℕ) : Type 0 where
  pub cover : IsCover p eps from to starts
  pub within : (others : List ℕ) → IsCover p eps from to others → length starts ≤ length others + slack
