-- No line is within eps at the three places of a witness.
--
-- Main result: `no_line_at_witness`. A line at the middle place
-- is the mean of what it is at the outer two, weighted by the
-- distances; if it were within eps at all three, the chord that
-- the witness is about couldn't pass the middle too far off.
use Rattle.std.proofs.Common.{◌≡◌, ℕ, ◌+◌, ◌*◌, ◌-◌, ◌<◌, ◌≤◌, ap, arith}
use Rattle.std.proofs.lemmas.Int.{ints}
use Rattle.std.proofs.Math.Nat.{mul-le-mul_right, le_of_mul-le-mul_right}
use borrow.Author.Differences.{up, down}
use Rattle.exact_cross.specs.declared.segment.Side.{Side}
use Rattle.exact_cross.specs.declared.segment.Side.TheVariants.{Over, Under}
use Rattle.exact_cross.specs.declared.segment.Witness.{Witness}
use Rattle.exact_cross.specs.Points.{Points, IsAscending}
use Rattle.exact_cross.specs.Lines.{RationalLine, IsWithin}
use Rattle.exact_cross.specs.Witnesses.{IsOver, IsUnder, IsBeyond, IsWitness}
use Rattle.exact_cross.proofs.Cleared.{difference_times, IsWithin-above, IsWithin-below}

-- the two sides, with no difference
pub IsOver-sums : (p : Points) (eps a b r : ℕ) → p.x a ≤ p.x b → p.x b ≤ p.x r → IsOver p eps a b r →
    (p.y b + 2 * eps) * (p.x r - p.x a) < p.y a * (p.x r - p.x b) + p.y r * (p.x b - p.x a)
IsOver-sums p eps a b r ab br h =
    let width : p.x r - p.x a ≡ (p.x r - p.x b) + (p.x b - p.x a) = omega arith in
    omega (
      arith,
      ints,
      h.over,
      ap (λ (t : ℕ). eps * t) width,
      difference_times (p.y a) eps (p.x r - p.x b),
      difference_times (p.y r) eps (p.x b - p.x a),
    )

pub IsOver-from_sums : (p : Points) (eps a b r : ℕ) → p.x a ≤ p.x b → p.x b ≤ p.x r →
    (p.y b + 2 * eps) * (p.x r - p.x a) < p.y a * (p.x r - p.x b) + p.y r * (p.x b - p.x a) → IsOver p eps a b r
IsOver-from_sums p eps a b r ab br h =
    let width : p.x r - p.x a ≡ (p.x r - p.x b) + (p.x b - p.x a) = omega arith in
    record {
      over = omega (
        arith,
        ints,
        h,
        ap (λ (t : ℕ). eps * t) width,
        difference_times (p.y a) eps (p.x r - p.x b),
        difference_times (p.y r) eps (p.x b - p.x a),
      );
    }

pub IsUnder-sums : (p : Points) (eps a b r : ℕ) → p.x a ≤ p.x b → p.x b ≤ p.x r → IsUnder p eps a b r →
    p.y a * (p.x r - p.x b) + p.y r * (p.x b - p.x a) + 2 * eps * (p.x r - p.x a) < p.y b * (p.x r - p.x a)
IsUnder-sums p eps a b r ab br h =
    let width : p.x r - p.x a ≡ (p.x r - p.x b) + (p.x b - p.x a) = omega arith in
    omega (arith, ints, h.under, ap (λ (t : ℕ). eps * t) width, difference_times (p.y b) eps (p.x r - p.x a))

pub IsUnder-from_sums : (p : Points) (eps a b r : ℕ) → p.x a ≤ p.x b → p.x b ≤ p.x r →
    p.y a * (p.x r - p.x b) + p.y r * (p.x b - p.x a) + 2 * eps * (p.x r - p.x a) < p.y b * (p.x r - p.x a) →
    IsUnder p eps a b r
IsUnder-from_sums p eps a b r ab br h =
    let width : p.x r - p.x a ≡ (p.x r - p.x b) + (p.x b - p.x a) = omega arith in
    record {
      under =
          omega (arith, ints, h, ap (λ (t : ℕ). eps * t) width, difference_times (p.y b) eps (p.x r - p.x a));
    }

-- the line (rise - fall) * x + (icpt - drop), over den, not below the
-- points of a and r and not above that of b, `left` and `right` apart
chord_not_over : (rise fall icpt drop den eps xa xb xr ya yb yr left right : ℕ) →
    0 < den → xb ≡ xa + left → xr ≡ xb + right →
    fall * xa + drop + den * ya ≤ rise * xa + icpt + den * eps →
    rise * xb + icpt ≤ fall * xb + drop + den * yb + den * eps →
    fall * xr + drop + den * yr ≤ rise * xr + icpt + den * eps →
    ya * right + yr * left ≤ (yb + 2 * eps) * (right + left)
chord_not_over rise fall icpt drop den eps xa xb xr ya yb yr left right positive spans_left spans_right at_a at_b at_r =
    le_of_mul-le-mul_right {k = den}
    (omega (
      arith,
      mul-le-mul_right right at_a,
      mul-le-mul_right left at_r,
      mul-le-mul_right (right + left) at_b,
      ap (λ (t : ℕ). rise * t * right) spans_left,
      ap (λ (t : ℕ). fall * t * right) spans_left,
      ap (λ (t : ℕ). rise * t * left) spans_right,
      ap (λ (t : ℕ). fall * t * left) spans_right,
    )) positive

chord_not_under : (rise fall icpt drop den eps xa xb xr ya yb yr left right : ℕ) →
    0 < den → xb ≡ xa + left → xr ≡ xb + right →
    rise * xa + icpt ≤ fall * xa + drop + den * ya + den * eps →
    fall * xb + drop + den * yb ≤ rise * xb + icpt + den * eps →
    rise * xr + icpt ≤ fall * xr + drop + den * yr + den * eps →
    yb * (right + left) ≤ ya * right + yr * left + 2 * eps * (right + left)
chord_not_under
    rise fall icpt drop den eps xa xb xr ya yb yr left right positive spans_left spans_right at_a at_b at_r =
    le_of_mul-le-mul_right {k = den}
    (omega (
      arith,
      mul-le-mul_right right at_a,
      mul-le-mul_right left at_r,
      mul-le-mul_right (right + left) at_b,
      ap (λ (t : ℕ). rise * t * right) spans_left,
      ap (λ (t : ℕ). fall * t * right) spans_left,
      ap (λ (t : ℕ). rise * t * left) spans_right,
      ap (λ (t : ℕ). fall * t * left) spans_right,
    )) positive

no_line-over : (p : Points) (eps a b r : ℕ) →
    p.x a ≤ p.x b → p.x b ≤ p.x r → IsOver p eps a b r → (line : RationalLine) →
    IsWithin p eps line a → IsWithin p eps line b → IsWithin p eps line r → ⊥
no_line-over p eps a b r ab br over line at_a at_b at_r =
    let width : p.x r - p.x a ≡ (p.x r - p.x b) + (p.x b - p.x a) = omega arith in
    let chord =
    chord_not_over (up line.num) (down line.num) (up line.icpt) (down line.icpt) line.den eps (p.x a) (p.x b)
    (p.x r) (p.y a) (p.y b) (p.y r) (p.x b - p.x a) (p.x r - p.x b) line.positive (omega arith) (omega arith)
    (IsWithin-below p eps line a at_a) (IsWithin-above p eps line b at_b) (IsWithin-below p eps line r at_r) in
    omega (arith, chord, IsOver-sums p eps a b r ab br over, ap (λ (t : ℕ). (p.y b + 2 * eps) * t) width)

no_line-under : (p : Points) (eps a b r : ℕ) →
    p.x a ≤ p.x b → p.x b ≤ p.x r → IsUnder p eps a b r → (line : RationalLine) →
    IsWithin p eps line a → IsWithin p eps line b → IsWithin p eps line r → ⊥
no_line-under p eps a b r ab br under line at_a at_b at_r =
    let width : p.x r - p.x a ≡ (p.x r - p.x b) + (p.x b - p.x a) = omega arith in
    let chord =
    chord_not_under (up line.num) (down line.num) (up line.icpt) (down line.icpt) line.den eps (p.x a) (p.x b)
    (p.x r) (p.y a) (p.y b) (p.y r) (p.x b - p.x a) (p.x r - p.x b) line.positive (omega arith) (omega arith)
    (IsWithin-above p eps line a at_a) (IsWithin-below p eps line b at_b) (IsWithin-above p eps line r at_r) in
    omega (
      arith,
      chord,
      IsUnder-sums p eps a b r ab br under,
      ap (λ (t : ℕ). (p.y b) * t) width,
      ap (λ (t : ℕ). eps * t) width,
    )

no_line-beyond : (p : Points) (eps : ℕ) (side : Side) (a b r : ℕ) →
    p.x a ≤ p.x b → p.x b ≤ p.x r → IsBeyond p eps side a b r → (line : RationalLine) →
    IsWithin p eps line a → IsWithin p eps line b → IsWithin p eps line r → ⊥
no_line-beyond p eps Over a b r ab br beyond = no_line-over p eps a b r ab br beyond
no_line-beyond p eps Under a b r ab br beyond = no_line-under p eps a b r ab br beyond

pub no_line_at_witness : (p : Points) (eps : ℕ) (w : Witness) →
    IsAscending p → IsWitness p eps w → (line : RationalLine) →
    IsWithin p eps line w.p → IsWithin p eps line w.q → IsWithin p eps line w.r → ⊥
no_line_at_witness p eps w ascends witness =
    let left : p.x w.p < p.x w.q = ascends.x_rises w.p w.q witness.first (omega arith) in
    let right : p.x w.q < p.x w.r = ascends.x_rises w.q w.r witness.second witness.last in
    no_line-beyond p eps w.side w.p w.q w.r (omega arith) (omega arith) witness.beyond
