-- Places of a stretch lie ahead of a run that ends in it.
use Rattle.std.proofs.Common.{◌≡◌, ℕ, ◌+◌, ◌*◌, ◌-◌, ◌<◌, ◌≤◌, inl, inr, ap, length, slice_index, refl, subst, arith}
use Rattle.std.proofs.lemmas.Bool.{cases_lt}
use Rattle.exact_cross.specs.declared.points.PointList.{PointList}
use Rattle.exact_cross.specs.declared.segment.Witness.{Witness}
use Rattle.exact_cross.specs.Points.{Points}
use Rattle.exact_cross.specs.PointLists.{points_in}
use Rattle.hulls.specs.declared.fitting.Hulls.{Hulls}
use Rattle.hulls.specs.declared.fitting.Offer.{Offer}
use Rattle.hulls.specs.declared.fitting.Offer.TheVariants.{Extended, Cut}
use Rattle.hulls.specs.Hulls.{MatchOffer, StandsFor, AreEven, IsAhead}
use Rattle.segmenter.specs.Stretches.{IsInStretch}

pub AreEven-part : (p : Points) (i m to : ℕ) → to ≤ m → AreEven p i m → AreEven p i to
AreEven-part p i m to within even = record {
  step = even.step;
  climb = even.climb;
  fall = even.fall;
  x = λ k low high. even.x k low (omega arith);
  y = λ k low high. even.y k low (omega arith);
}

-- two places are
pub AreEven-two : (p : Points) (i : ℕ) → p.x i ≤ p.x (i + 1) → p.y i ≤ p.y (i + 1) → AreEven p i (i + 1)
AreEven-two p i right upward = record {
  step = p.x (i + 1) - p.x i;
  climb = p.y (i + 1) - p.y i;
  fall = 0;
  x = λ k low high. two_even p.x i k right low high;
  y = λ k low high. omega (arith, two_even p.y i k upward low high);
}
  where
    two_even : (at : ℕ → ℕ) (i k : ℕ) →
        at i ≤ at (i + 1) → i ≤ k → k ≤ i + 1 → at k ≡ at i + (k - i) * (at (i + 1) - at i)
    two_even at i k rises low high = elim (cases_lt i k) [
      | inl later ↦
          let same : k ≡ i + 1 = omega arith in
          let one : k - i ≡ 1 = omega arith in
          rw one (omega (arith, ap at same))
      | inr first ↦
          let same : k ≡ i = omega arith in
          let none : k - i ≡ 0 = omega arith in
          rw none (omega (arith, ap at same))
    ]

pub IsInStretch-part : (hulls : Hulls) (p : Points) (eps s from end to : ℕ) →
    to ≤ end → IsInStretch hulls p eps s from end → IsInStretch hulls p eps s from to
IsInStretch-part hulls p eps s from end to within is =
    record { stands = is.stands; several = is.several; even = AreEven-part p (from - 1) end to within is.even }

pub IsAhead-in_stretch : (hulls : Hulls) (points : PointList) (eps s from end m : ℕ) →
    from < m → m ≤ end → end < length points.xs.now → IsInStretch hulls (points_in points) eps s from end →
    IsAhead hulls (points_in points) eps s (from + 1) m (slice_index points.xs.now m) (slice_index points.ys.now m)
IsAhead-in_stretch hulls points eps s from end m beyond within inside is =
    let before : from - 1 ≡ from + 1 - 2 = omega arith in
    let several = is.several in
    record {
      stands = is.stands;
      order = omega arith;
      even = λ further. (
        omega arith,
        subst (λ (n : ℕ). AreEven (points_in points) n m) before
            (AreEven-part (points_in points) (from - 1) end m within is.even),
      );
      more = omega arith;
      at_x = refl;
      at_y = refl;
    }

-- a run and its next place begin a stretch
pub IsInStretch-begun : (hulls : Hulls) (p : Points) (eps s last end : ℕ) →
    s ≤ last → StandsFor hulls p eps s (last + 1 + 1) → AreEven p last end → IsInStretch hulls p eps s (last + 1) end
IsInStretch-begun hulls p eps s last end some stands even =
    let before : last ≡ last + 1 - 1 = omega arith in
    record { stands = stands; several = omega arith; even = subst (λ (n : ℕ). AreEven p n end) before even }

-- the same bound under another name
pub IsInStretch-bound : (hulls : Hulls) (p : Points) (eps bound s from end : ℕ) →
    eps ≡ bound → IsInStretch hulls p eps s from end → IsInStretch hulls p bound s from end
IsInStretch-bound hulls p eps bound s from end same is = subst (λ (n : ℕ). IsInStretch hulls p n s from end) same is

-- of either answer
pub MatchOffer-map : {P P' : Type 0} {Q Q' : Witness → Type 0} (offer : Offer) →
    (P → P') → ((w : Witness) → Q w → Q' w) → MatchOffer offer P Q → MatchOffer offer P' Q'
MatchOffer-map Extended f g h = f h
MatchOffer-map (Cut w) f g h = g w h

pub MatchOffer-either : (P : Type 0) (Q : Witness → Type 0) (offer : Offer) →
    P → ((w : Witness) → Q w) → MatchOffer offer P Q
MatchOffer-either P Q Extended p q = p
MatchOffer-either P Q (Cut w) p q = q w

pub MatchOffer-cut : (P : Type 0) (Q : Witness → Type 0) (offer : Offer) (w : Witness) →
    offer ≡ Cut w → MatchOffer offer P Q → Q w
MatchOffer-cut P Q offer w is h = subst (λ (o : Offer). MatchOffer o P Q) is h
