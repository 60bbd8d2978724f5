-- The height of a line at a key, rounded down: from its quotient, and that there is only one.
use Rattle.std.proofs.Common.{◌≡◌, ℕ, ◌+◌, ◌*◌, ◌-◌, ◌/◌, ◌^◌, ◌<◌, ◌≤◌, ℤ, pos, ◌+ℤ◌, ◌-ℤ◌, ◌*ℤ◌, ap, arith}
use Rattle.std.proofs.lemmas.Int.{ints}
use Rattle.std.proofs.Math.Nat.{div-mul-le_self, lt-div-mul-add, mul-le-mul_left}
use Rattle.std.proofs.Math.Nat.{le_of_mul-le-mul_right, lt_of_mul-lt-mul_right}
use Rattle.std.proofs.lemmas.Nat.{mul-lt}
use borrow.Author.Differences.{up, down}
use Rattle.exact_cross.specs.declared.line.Line.{Line}
use Rattle.exact_cross.specs.Points.{Points}
use Rattle.exact_cross.specs.Lines.{IsWithin, rational}
use Rattle.exact_cross.specs.Floors.{height_at, IsFloorAt}
use Rattle.exact_cross.proofs.Cleared.{IsWithin-above, IsWithin-below}

-- products of whole numbers with naturals, as sums of naturals
times : (z : ℤ) (n : ℕ) → up (z *ℤ pos n) + down z * n ≡ down (z *ℤ pos n) + up z * n
times z n = omega (arith, ints)

times_left : (n : ℕ) (z : ℤ) → up (pos n *ℤ z) + n * down z ≡ down (pos n *ℤ z) + n * up z
times_left n z = omega (arith, ints)

sum : (a b : ℤ) → up (a +ℤ b) + (down a + down b) ≡ down (a +ℤ b) + (up a + up b)
sum a b = omega (arith, ints)

difference : (a b : ℕ) → up (pos a -ℤ pos b) + b ≡ down (pos a -ℤ pos b) + a
difference a b = omega (arith, ints)

-- the height, with nothing below 0: rise * q on the one side and rise * x0 on the other
pub height-out : (line : Line) (q : ℕ) →
    up (height_at line q) + (down line.y0 * line.run + line.rise * line.x0)
    ≡ down (height_at line q) + (up line.y0 * line.run + line.rise * q)
height-out line q =
    let base = times line.y0 line.run in
    let climb = times_left line.rise (pos q -ℤ pos line.x0) in
    let all = sum (line.y0 *ℤ pos line.run) (pos line.rise *ℤ (pos q -ℤ pos line.x0)) in
    omega (arith, ap (λ (t : ℕ). line.rise * t) (difference q line.x0))

-- f is the floor where these two sums of naturals say so
pub IsFloorAt-in : (line : Line) (q : ℕ) (f : ℤ) →
    up f * line.run + (down line.y0 * line.run + line.rise * line.x0)
    ≤ down f * line.run + (up line.y0 * line.run + line.rise * q) →
    down f * line.run + (up line.y0 * line.run + line.rise * q)
    < up f * line.run + line.run + (down line.y0 * line.run + line.rise * line.x0) →
    IsFloorAt line q f
IsFloorAt-in line q f not_above greatest =
    let height = height-out line q in
    let low = times f line.run in
    let next = times (f +ℤ pos 1) line.run in
    let more = sum f (pos 1) in
    record {
      not_above = omega (arith, ints);
      greatest = omega (arith, ints, ap (λ (t : ℕ). t * line.run) more);
    }

pub IsFloorAt-out : (line : Line) (q : ℕ) (f : ℤ) → IsFloorAt line q f →
    (up f * line.run + (down line.y0 * line.run + line.rise * line.x0)
    ≤ down f * line.run + (up line.y0 * line.run + line.rise * q)) ×
    (down f * line.run + (up line.y0 * line.run + line.rise * q)
    < up f * line.run + line.run + (down line.y0 * line.run + line.rise * line.x0))
IsFloorAt-out line q f floor =
    let height = height-out line q in
    let low = times f line.run in
    let next = times (f +ℤ pos 1) line.run in
    let more = sum f (pos 1) in
    (omega (arith, ints, floor.not_above), omega (arith, ints, floor.greatest, ap (λ (t : ℕ). t * line.run) more))

-- there is only one
pub IsFloorAt-unique : (line : Line) (q : ℕ) (f g : ℤ) → 0 < line.run → IsFloorAt line q f → IsFloorAt line q g → f ≡ g
IsFloorAt-unique line q f g positive first second =
    let (low, next) = IsFloorAt-out line q f first in
    let (low', next') = IsFloorAt-out line q g second in
    let not_above : up f + down g < up g + down f + 1 = lt_of_mul-lt-mul_right line.run (omega arith) in
    let not_below : up g + down f < up f + down g + 1 = lt_of_mul-lt-mul_right line.run (omega arith) in
    omega (arith, ints)

-- a line within eps of a point is at most eps below it at and
-- right of the point, and at most eps above it at and left of it
pub floor_not_below : (p : Points) (eps : ℕ) (line : Line) (positive : 0 < line.run) (j q : ℕ) (f : ℤ) →
    IsWithin p eps (rational line positive) j → p.x j ≤ q →
    IsFloorAt line q f → p.y j + down f ≤ up f + eps
floor_not_below p eps line positive j q f within right floor =
    let (low, next) = IsFloorAt-out line q f floor in
    let base = times line.y0 line.run in
    let below = IsWithin-below p eps (rational line positive) j within in
    let climb = mul-le-mul_left line.rise right in
    let less : p.y j + down f < up f + eps + 1 = lt_of_mul-lt-mul_right line.run (omega (arith, ints)) in
    omega arith

pub floor_not_above : (p : Points) (eps : ℕ) (line : Line) (positive : 0 < line.run) (j q : ℕ) (f : ℤ) →
    IsWithin p eps (rational line positive) j → q ≤ p.x j →
    IsFloorAt line q f → up f ≤ down f + p.y j + eps
floor_not_above p eps line positive j q f within left floor =
    let (low, next) = IsFloorAt-out line q f floor in
    let base = times line.y0 line.run in
    let above = IsWithin-above p eps (rational line positive) j within in
    let climb = mul-le-mul_left line.rise left in
    le_of_mul-le-mul_right {k = line.run} (omega (arith, ints)) positive

-- a quotient times its divisor, and one more
quotient-times : (n d quotient : ℕ) → 0 < d → quotient ≡ n / d → (quotient * d ≤ n) × (n < quotient * d + d)
quotient-times n d quotient positive is = rw is (div-mul-le_self n d, lt-div-mul-add positive)

-- a climb of a line in range, and its quotient, are small
pub climb_below : (rise gap : ℕ) → rise < 2 ^ 33 → gap < 2 ^ 64 → rise * gap < 2 ^ 97
climb_below rise gap small short = omega (arith, mul-lt rise gap (2 ^ 33) (2 ^ 64) small short)

-- right of the line's point: y0 and the quotient of the climb
pub IsFloorAt-right : (line : Line) (q gap quotient : ℕ) (f : ℤ) →
    0 < line.run → q ≡ line.x0 + gap → quotient ≡ line.rise * gap / line.run →
    up f + down line.y0 ≡ down f + (up line.y0 + quotient) → IsFloorAt line q f
IsFloorAt-right line q gap quotient f positive right is climbs =
    let scaled = ap (λ (t : ℕ). t * line.run) climbs in
    let reach = ap (λ (t : ℕ). line.rise * t) right in
    let divided = quotient-times (line.rise * gap) line.run quotient positive is in
    IsFloorAt-in line q f (omega arith) (omega arith)

-- left of it: y0 less the quotient of the fall, rounded up
pub IsFloorAt-left : (line : Line) (q gap quotient : ℕ) (f : ℤ) → 0 < line.run → line.x0 ≡ q + gap →
    quotient ≡ (line.rise * gap + (line.run - 1)) / line.run →
    up f + down line.y0 + quotient ≡ down f + up line.y0 → IsFloorAt line q f
IsFloorAt-left line q gap quotient f positive left is falls =
    let scaled = ap (λ (t : ℕ). t * line.run) falls in
    let reach = ap (λ (t : ℕ). line.rise * t) left in
    let divided = quotient-times (line.rise * gap + (line.run - 1)) line.run quotient positive is in
    IsFloorAt-in line q f (omega arith) (omega arith)
