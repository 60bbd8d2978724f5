-- A line that fits a run rises at least as fast as each flat slope of the run, and at most as fast as each steep one.
--
-- Main result: `flat_at_most_steep`, so that no flat slope of
-- such a run is above a steep one: subtract two of the line's
-- inequalities.
use Rattle.std.proofs.Common.{◌≡◌, ℕ, ◌+◌, ◌*◌, ◌-◌, ◌<◌, ◌≤◌, ap, arith}
use Rattle.std.proofs.Math.Nat.{mul-le-mul_right, le_of_mul-le-mul_right}
use borrow.Author.Differences.{up, down}
use Rattle.exact_cross.specs.Points.{Points, IsAscending}
use Rattle.exact_cross.specs.Lines.{SomeLineFits}
use Rattle.exact_cross.specs.Slopes.{IsAtMost, steep_slope, flat_slope}
use Rattle.exact_cross.specs.Steep.{IsPair}
use Rattle.exact_cross.proofs.Cleared.{products_le-in, IsWithin-above, IsWithin-below}
use Rattle.exact_cross.proofs.SteepLine.{IsWide, IsWide-from_pair}

-- the line (rise - fall) * x + (icpt - drop), over den, is not above the point of a and not below that of b
rises_enough : (rise fall icpt drop den eps xa xb ya yb gap : ℕ) → xb ≡ xa + gap →
    rise * xa + icpt ≤ fall * xa + drop + den * ya + den * eps →
    fall * xb + drop + den * yb ≤ rise * xb + icpt + den * eps →
    fall * gap + den * yb ≤ rise * gap + den * ya + 2 * (den * eps)
rises_enough rise fall icpt drop den eps xa xb ya yb gap right at_a at_b =
    omega (arith, at_a, at_b, ap (λ (t : ℕ). rise * t) right, ap (λ (t : ℕ). fall * t) right)

-- it is not below the point of c and not above that of d
rises_little : (rise fall icpt drop den eps xc xd yc yd gap : ℕ) → xd ≡ xc + gap →
    fall * xc + drop + den * yc ≤ rise * xc + icpt + den * eps →
    rise * xd + icpt ≤ fall * xd + drop + den * yd + den * eps →
    rise * gap + den * yc ≤ fall * gap + den * yd + 2 * (den * eps)
rises_little rise fall icpt drop den eps xc xd yc yd gap right at_c at_d =
    omega (arith, at_c, at_d, ap (λ (t : ℕ). rise * t) right, ap (λ (t : ℕ). fall * t) right)

-- those two facts, each times the other's gap, without the line
compared : (rise fall den eps u v ya yb yc yd : ℕ) → 0 < den →
    fall * u + den * yb ≤ rise * u + den * ya + 2 * (den * eps) →
    rise * v + den * yc ≤ fall * v + den * yd + 2 * (den * eps) →
    yb * v + yc * u ≤ (yd + 2 * eps) * u + (ya + 2 * eps) * v
compared rise fall den eps u v ya yb yc yd positive enough little =
    le_of_mul-le-mul_right {k = den} (omega (arith, mul-le-mul_right v enough, mul-le-mul_right u little)) positive

-- where some line fits the run, no flat slope of it is above a steep one
pub flat_at_most_steep : (p : Points) (eps s e a b c d : ℕ) → IsAscending p → e ≤ p.count → SomeLineFits p eps s e →
    IsPair s e a b → IsPair s e c d → IsAtMost (flat_slope p eps a b) (steep_slope p eps c d)
flat_at_most_steep p eps s e a b c d ascends inside fits first second =
    let line = fits.0 in
    let near = fits.1 in
    let left : IsWide p eps a b = IsWide-from_pair p eps a b ascends first.rises (omega arith) in
    let right : IsWide p eps c d = IsWide-from_pair p eps c d ascends second.rises (omega arith) in
    let enough = rises_enough (up line.num) (down line.num)
    (up line.icpt) (down line.icpt) line.den eps (p.x a) (p.x b) (p.y a) (p.y b) (p.x b - p.x a) left.spans
    (IsWithin-above p eps line a (near a first.from_start (omega arith)))
    (IsWithin-below p eps line b (near b (omega arith) first.to_end)) in
    let little = rises_little (up line.num) (down line.num)
    (up line.icpt) (down line.icpt) line.den eps (p.x c) (p.x d) (p.y c) (p.y d) (p.x d - p.x c) right.spans
    (IsWithin-below p eps line c (near c second.from_start (omega arith)))
    (IsWithin-above p eps line d (near d (omega arith) second.to_end)) in
    let sums = compared (up line.num) (down line.num) line.den eps
    (p.x b - p.x a) (p.x d - p.x c) (p.y a) (p.y b) (p.y c) (p.y d) line.positive enough little in
    record {
      at_most =
          products_le-in (p.y b) (p.y a + 2 * eps) (p.x d - p.x c) (p.y d + 2 * eps) (p.y c) (p.x b - p.x a) sums;
    }
