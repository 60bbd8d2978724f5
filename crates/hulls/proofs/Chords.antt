-- What a chord says of the points under it, in naturals: a line that passes over both ends of a chord passes over what
-- lies under it, slopes to a point on the right that no longer fall go on rising along a hull, and chords under chords.
use Rattle.std.proofs.Common.{◌≡◌, ℕ, suc, ◌+◌, ◌*◌, ◌<◌, ◌≤◌, inl, inr, ap, arith}
use Rattle.std.proofs.lemmas.Bool.{cases_lt}
use Rattle.std.proofs.Math.Nat.{mul-le-mul_right, le_of_mul-le-mul_right}

-- the point (x, y) lies on or under the line with the slope (up - down) / run through (far, high)
-- two ends of a chord, j in between: on or under as well
pub chord_under : (up down run far high xi yi xj yj xk yk u v : ℕ) → xj ≡ xi + u → xk ≡ xj + v → 0 < u + v →
    up * far + yi * run + down * xi ≤ high * run + down * far + up * xi →
    up * far + yk * run + down * xk ≤ high * run + down * far + up * xk →
    yj * (u + v) ≤ yi * v + yk * u →
    up * far + yj * run + down * xj ≤ high * run + down * far + up * xj
chord_under up down run far high xi yi xj yj xk yk u v to_j to_k wide left right chord =
    le_of_mul-le-mul_right {k = u + v}
    (omega (
      arith,
      mul-le-mul_right v left,
      mul-le-mul_right u right,
      mul-le-mul_right run chord,
      ap (λ (t : ℕ). up * t * (u + v)) to_j,
      ap (λ (t : ℕ). down * t * (u + v)) to_j,
      ap (λ (t : ℕ). up * t * u) to_j,
      ap (λ (t : ℕ). down * t * u) to_j,
      ap (λ (t : ℕ). up * t * u) to_k,
      ap (λ (t : ℕ). down * t * u) to_k,
    )) wide

-- where the left end is strictly under, so is each point of the chord but the right end
pub chord_strictly_under : (up down run far high xi yi xj yj xk yk u v : ℕ) → xj ≡ xi + u → xk ≡ xj + v → 0 < v →
    up * far + yi * run + down * xi < high * run + down * far + up * xi →
    up * far + yk * run + down * xk ≤ high * run + down * far + up * xk →
    yj * (u + v) ≤ yi * v + yk * u →
    up * far + yj * run + down * xj < high * run + down * far + up * xj
chord_strictly_under up down run far high xi yi xj yj xk yk u v to_j to_k wide left right chord =
    elim (cases_lt (up * far + yj * run + down * xj) (high * run + down * far + up * xj)) [
      | inl less ↦ less
      | inr more ↦ absurd (omega (
        arith,
        mul-le-mul_right {m = suc (up * far + yi * run + down * xi)} v left,
        mul-le-mul_right u right,
        mul-le-mul_right run chord,
        mul-le-mul_right (u + v) more,
        ap (λ (t : ℕ). up * t * (u + v)) to_j,
        ap (λ (t : ℕ). down * t * (u + v)) to_j,
        ap (λ (t : ℕ). up * t * u) to_j,
        ap (λ (t : ℕ). down * t * u) to_j,
        ap (λ (t : ℕ). up * t * u) to_k,
        ap (λ (t : ℕ). down * t * u) to_k,
      ))
    ]

-- three points of a hull, u and v apart, and a point w further at the height `high`: where the
-- slope to it doesn't fall from the first to the second, it doesn't from the second to the third
pub later_slope : (high y1 y2 y3 u v w : ℕ) → 0 < u →
    high * (v + w) + y2 * (u + v + w) ≤ high * (u + v + w) + y1 * (v + w) →
    y3 * u + y1 * v ≤ y2 * (u + v) →
    high * w + y3 * (v + w) ≤ high * (v + w) + y2 * w
later_slope high y1 y2 y3 u v w wide first turn =
    le_of_mul-le-mul_right {k = u} (omega (arith, mul-le-mul_right v first, mul-le-mul_right (v + w) turn)) wide

-- h, i, j, r in this order: j under the chord from i to r, and i under that from h to r
pub chord_right : (yh yi yj yr a b c : ℕ) →
    0 < b + c → yj * (b + c) ≤ yi * c + yr * b → yi * (a + b + c) ≤ yh * (b + c) + yr * a →
    yj * (a + b + c) ≤ yh * c + yr * (a + b)
chord_right yh yi yj yr a b c wide inner outer =
    le_of_mul-le-mul_right {k = b + c}
    (omega (arith, mul-le-mul_right (a + b + c) inner, mul-le-mul_right c outer)) wide

-- h, j, i, r in this order: j under the chord from h to i, and i under that from h to r
pub chord_left : (yh yi yj yr a b c : ℕ) →
    0 < a + b → yj * (a + b) ≤ yh * b + yi * a → yi * (a + b + c) ≤ yh * c + yr * (a + b) →
    yj * (a + b + c) ≤ yh * (b + c) + yr * a
chord_left yh yi yj yr a b c wide inner outer =
    le_of_mul-le-mul_right {k = a + b}
    (omega (arith, mul-le-mul_right (a + b + c) inner, mul-le-mul_right a outer)) wide

-- left of the point a, what is on or under a line through a is strictly under a less steep one
pub less_steep_left : (up down run up' down' run' xa ya xc yc g : ℕ) → xa ≡ xc + g → 0 < g → 0 < run →
    yc * run + up * xa + down * xc ≤ ya * run + up * xc + down * xa →
    up' * run + down * run' < up * run' + down' * run →
    yc * run' + up' * xa + down' * xc < ya * run' + up' * xc + down' * xa
less_steep_left up down run up' down' run' xa ya xc yc g left wide positive under less =
    elim (cases_lt (yc * run' + up' * xa + down' * xc) (ya * run' + up' * xc + down' * xa)) [
      | inl strictly ↦ strictly
      | inr more ↦ absurd (omega (
        arith,
        wide,
        mul-le-mul_right run more,
        mul-le-mul_right run' under,
        mul-le-mul_right {m = suc (up' * run + down * run')} g less,
        ap (λ (t : ℕ). up * t * run') left,
        ap (λ (t : ℕ). down * t * run') left,
        ap (λ (t : ℕ). up' * t * run) left,
        ap (λ (t : ℕ). down' * t * run) left,
      ))
    ]

-- c, d, j, e in this order, `g`, `u` and `w` apart, the heights of c and e raised: where the slope from c falls
-- from d to j, and that from d to e is no less than that from c to d, the slope to e is no less from j than from d
pub slope_behind : (low d j high g u w : ℕ) →
    0 < g → j * g + low * u ≤ d * g + d * u → d * (u + w) + d * g ≤ high * g + low * (u + w) →
    j * (u + w) ≤ high * u + d * w
slope_behind low d j high g u w wide first second =
    le_of_mul-le-mul_right {k = g} (omega (arith, mul-le-mul_right (u + w) first, mul-le-mul_right u second)) wide
