-- What two hulls stand for: a run of points, given place by place.
use Rattle.std.specs.Prelude.{◌≡◌, ℕ, ◌+◌, ◌*◌, ◌-◌, ◌^◌, ◌<◌, ◌≤◌, min, vec_capacity}
use Rattle.exact_cross.specs.declared.TheConstants.{MAX_EPSILON}
use Rattle.exact_cross.specs.declared.segment.Witness.{Witness}
use Rattle.exact_cross.specs.Points.{Points, IsAscending}
use Rattle.exact_cross.specs.Lines.{SomeLineFits}
use Rattle.hulls.specs.declared.fitting.Hulls.{Hulls}
use Rattle.hulls.specs.declared.fitting.Offer.{Offer}
use Rattle.hulls.specs.declared.fitting.Offer.TheVariants.{Extended, Cut}
use Rattle.hulls.specs.Hull.{IsHullOf, spare_of, last_of}

-- what holds where the point was taken in, and what of the witness where it wasn't
abbrev pub MatchOffer : Offer → Type 0 → (Witness → Type 0) → Type 0
MatchOffer Extended P Q = P
MatchOffer (Cut w) P Q = Q w

-- the points upside down: their steep pairs are the flat pairs of the points
abbrev pub mirrored : Points → Points
mirrored p = record { count = p.count; x = p.x; y = λ j. 4294967295 - p.y j }

-- how many points of one run fit in
abbrev pub room_of : Hulls → ℕ
room_of hulls = min (vec_capacity hulls.steep.vertices) (vec_capacity hulls.flat.vertices)

-- how many points stand on the two hulls past the tangent places
abbrev pub spare : Hulls → ℕ
spare hulls = spare_of hulls.steep + spare_of hulls.flat

-- the error bound of the lines
abbrev pub bound_of : Hulls → ℕ
bound_of hulls = hulls.eps

-- the hulls were given the run s..e of ascending points, each place
-- after the one before it, and some line is within eps at all of them
pub record StandsFor (hulls : Hulls) (p : Points) (eps s e : ℕ) : Type 0 where
  pub ascends : IsAscending p
  pub inside : e ≤ p.count
  pub low : (j : ℕ) → s ≤ j → j < e → p.y j < 2 ^ 32
  pub last : hulls.last + 1 ≡ e
  pub bound : hulls.eps ≡ eps
  pub bounded : eps ≤ MAX_EPSILON
  pub fits : SomeLineFits p eps s e
  pub steep : IsHullOf p eps s e hulls.steep
  pub flat : IsHullOf (mirrored p) eps s e hulls.flat

-- the places i..j are at even steps: from each to the next x rises
-- by the same, and y climbs by the same and falls by the same
pub record AreEven (p : Points) (i j : ℕ) : Type 0 where
  pub step : ℕ
  pub climb : ℕ
  pub fall : ℕ
  pub x : (k : ℕ) → i ≤ k → k ≤ j → p.x k ≡ p.x i + (k - i) * step
  pub y : (k : ℕ) → i ≤ k → k ≤ j → p.y k + (k - i) * fall ≡ p.y i + (k - i) * climb

-- the last place stands on both hulls
pub record EndOn (hulls : Hulls) : Type 0 where
  pub steep : last_of hulls.steep ≡ hulls.last
  pub flat : last_of hulls.flat ≡ hulls.last

-- the hulls stand for the run s..e, and the place m of the points, its next one or a
-- later one that lies at even steps with all between and the run's last two, is (x, y)
pub record IsAhead (hulls : Hulls) (p : Points) (eps s e m x y : ℕ) : Type 0 where
  pub stands : StandsFor hulls p eps s e
  pub order : e ≤ m
  pub even : e < m → (s + 2 ≤ e) × AreEven p (e - 2) m
  pub more : m < p.count
  pub at_x : p.x m ≡ x
  pub at_y : p.y m ≡ y

-- they do, and the next place of the points is (x, y)
pub record IsNext (hulls : Hulls) (p : Points) (eps s e x y : ℕ) : Type 0 where
  pub stands : StandsFor hulls p eps s e
  pub more : e < p.count
  pub at_x : p.x e ≡ x
  pub at_y : p.y e ≡ y
