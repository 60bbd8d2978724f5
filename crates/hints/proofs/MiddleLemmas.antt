-- What the hints of a run say at its places is at most the bound and one off, since two lines are within the bound
-- there.
--
-- Main result: `TellsPoints-from_lines`. Heights and slopes are cleared of their denominators, and differences of
-- naturals.
use Rattle.std.proofs.Common.{◌≡◌, ℕ, ◌+◌, ◌-◌, ◌*◌, ◌/◌, ◌%◌, ◌^◌, ◌<◌, ◌≤◌, ℤ, pos, ◌+ℤ◌, ◌-ℤ◌, ◌*ℤ◌, ◌≤ℤ◌, inl}
use Rattle.std.proofs.Common.{inr, ap, ◌∙◌, arith}
use Rattle.std.proofs.lemmas.Int.{ints}
use Rattle.std.proofs.lemmas.Nat.{pow_pos, pow-add}
use Rattle.std.proofs.lemmas.Bool.{cases_lt}
use Rattle.std.proofs.Math.Nat.{div-mul-le_self, lt-div-mul-add, mul-le-mul_right, lt_of_mul-lt-mul_right}
use Rattle.std.proofs.Math.Nat.{le_of_mul-le-mul_right}
use borrow.Author.Differences.{up, down}
use Rattle.exact_cross.specs.declared.line.Line.{Line}
use Rattle.exact_cross.specs.Points.{Points, IsAscending}
use Rattle.exact_cross.specs.Lines.{IsWithin, rational}
use Rattle.exact_cross.specs.Floors.{IsFloorAt}
use Rattle.exact_cross.proofs.CallerLemmas.{IsFloorAt-out, IsWithin-above, IsWithin-below}
use Rattle.hulls.specs.declared.flat.FlatLine.{FlatLine}
use Rattle.hulls.specs.FlatLines.{rational_flat}
use Rattle.hints.specs.Made.{raised_by, flat_height, AreLinesOfRun, IsFlatFloorAt, IsRoundedUp, IsSumOfSlopes}
use Rattle.hints.specs.Made.{TellsPoints}

-- a line with this slope, and this height at the first x, both times r: dx further on it is within e of y
pub record IsAt (r high low a b dx y e : ℕ) : Type 0 where
  pub above : high + a * dx ≤ low + b * dx + r * y + r * e
  pub below : low + b * dx + r * y ≤ high + a * dx + r * e

-- its floor f at the first x, and its slope times T, rounded up
pub record IsTaken (r high low a b T : ℕ) (f m : ℤ) : Type 0 where
  pub floor : up f * r + low ≤ down f * r + high
  pub next : down f * r + high < up f * r + r + low
  pub slope : a * T + down m * r ≤ up m * r + b * T
  pub least : up m * r + b * T < a * T + down m * r + r

below_one : (a b : ℕ) → a < b → a + 1 ≤ b
below_one a b less = omega arith

-- T times the floor, and dx times the slope, are near T times y
half_above : (r high low a b T dx y e : ℕ) (f m : ℤ) → 0 < r → dx < T → IsTaken r high low a b T f m →
    IsAt r high low a b dx y e →
    up f * T + up m * dx < down f * T + down m * dx + (y + e + 1) * T
half_above r high low a b T dx y e f m positive short taken at =
    let floor = mul-le-mul_right T taken.floor in
    let least = mul-le-mul_right dx (below_one (up m * r + b * T) (a * T + down m * r + r) taken.least) in
    let above = mul-le-mul_right T at.above in
    let room = mul-le-mul_right r (below_one dx T short) in
    lt_of_mul-lt-mul_right r (omega (arith, floor, least, above, room, positive))

half_below : (r high low a b T dx y e : ℕ) (f m : ℤ) → 0 < T → IsTaken r high low a b T f m →
    IsAt r high low a b dx y e →
    y * T + down f * T + down m * dx < up f * T + up m * dx + (e + 1) * T
half_below r high low a b T dx y e f m some taken at =
    let next = mul-le-mul_right T (below_one (down f * r + high) (up f * r + r + low) taken.next) in
    let slope = mul-le-mul_right dx taken.slope in
    let below = mul-le-mul_right T at.below in
    lt_of_mul-lt-mul_right r (omega (arith, next, slope, below, some))

-- the floor alone
pub floor_above : (r high low a b T y e : ℕ) (f m : ℤ) → 0 < r → 0 < T → IsTaken r high low a b T f m →
    IsAt r high low a b 0 y e → up f ≤ down f + y + e
floor_above r high low a b T y e f m positive some taken at =
    le_of_mul-le-mul_right {k = r} (omega (arith, taken.floor, at.above)) positive

pub floor_below : (r high low a b T y e : ℕ) (f m : ℤ) → 0 < r → 0 < T → IsTaken r high low a b T f m →
    IsAt r high low a b 0 y e → y + down f ≤ up f + e
floor_below r high low a b T y e f m positive some taken at =
    let less : y + down f < up f + e + 1 = lt_of_mul-lt-mul_right r (omega (arith, taken.next, at.below)) in
    omega arith

-- half of both floors and one, raised, with half of the sum of both slopes
both_near : (y e h k m T dx : ℕ) (f g u v : ℤ) → 0 < T → dx < T →
    2 * h + (down f + down g) ≤ up f + up g + 1 + 2 * e → up f + up g + 1 + 2 * e ≤ 2 * h + (down f + down g) + 1 →
    m + (down u + down v) ≡ up u + up v →
    up f * T + up u * dx < down f * T + down u * dx + (y + e + 1) * T →
    y * T + down f * T + down u * dx < up f * T + up u * dx + (e + 1) * T →
    up g * T + up v * dx < down g * T + down v * dx + (y + e + 1) * T →
    y * T + down g * T + down v * dx < up g * T + up v * dx + (e + 1) * T →
    k * (2 * T) ≤ dx * m → dx * m < k * (2 * T) + 2 * T → (y ≤ h + k + 1) × (h + k ≤ y + 2 * e + 1)
both_near y e h k m T dx f g u v some short low high sum f_above f_below g_above g_below from to =
    let low_T = mul-le-mul_right T low in
    let high_T = mul-le-mul_right T high in
    let sum_dx = ap (λ (t : ℕ). t * dx) sum in
    let not_below : y < h + k + 2 = lt_of_mul-lt-mul_right (2 * T)
    (omega (arith, high_T, sum_dx, f_below, g_below, to)) in
    let not_above : 2 * (h + k) < 2 * y + 4 * e + 3 = lt_of_mul-lt-mul_right T
    (omega (arith, low_T, sum_dx, f_above, g_above, from)) in
    (omega arith, omega arith)

-- ---- both lines of a run

pub times : (z : ℤ) (n : ℕ) → up (z *ℤ pos n) + down z * n ≡ down (z *ℤ pos n) + up z * n
times z n = omega (arith, ints)

pub IsRoundedUp-out : (rise : ℤ) (run T : ℕ) (m : ℤ) → IsRoundedUp rise run T m →
    (up rise * T + down m * run ≤ up m * run + down rise * T) ×
    (up m * run + down rise * T < up rise * T + down m * run + run)
IsRoundedUp-out rise run T m is =
    let scaled = times rise T in
    let back = times m run in
    (omega (arith, ints, is.not_below), omega (arith, ints, is.least))

pub IsTaken-steep : (line : Line) (first T : ℕ) (f m : ℤ) → IsFloorAt line first f → IsRoundedUp
    (pos line.rise) line.run T m →
    IsTaken line.run (up line.y0 * line.run + line.rise * first)
    (down line.y0 * line.run + line.rise * line.x0) line.rise 0 T f m
IsTaken-steep line first T f m floor slope =
    let (low, next) = IsFloorAt-out line first f floor in
    let (from, least) = IsRoundedUp-out (pos line.rise) line.run T m slope in
    record { floor = omega arith; next = omega arith; slope = omega arith; least = omega arith }

pub flat_height-out : (line : FlatLine) (q : ℕ) →
    up (flat_height line q) + (down line.rise * q + up line.rise * line.x0) ≡ down (flat_height line q) +
    (line.y0 * line.run + up line.rise * q + down line.rise * line.x0)
flat_height-out line q =
    let plain : up (pos q -ℤ pos line.x0) + line.x0 ≡ down (pos q -ℤ pos line.x0) + q = omega (arith, ints) in
    let climb : up (line.rise *ℤ (pos q -ℤ pos line.x0)) +
    (up line.rise * down (pos q -ℤ pos line.x0) + down line.rise * up (pos q -ℤ pos line.x0))
    ≡ down (line.rise *ℤ (pos q -ℤ pos line.x0)) +
    (up line.rise * up (pos q -ℤ pos line.x0) + down line.rise * down (pos q -ℤ pos line.x0)) = omega
    (arith, ints) in
    omega (arith, ints, climb, ap (λ (t : ℕ). up line.rise * t) plain, ap (λ (t : ℕ). down line.rise * t) plain)

pub IsTaken-flat : (line : FlatLine) (first T : ℕ) (f m : ℤ) → IsFlatFloorAt line first f →
    IsRoundedUp line.rise line.run T m →
    IsTaken line.run (line.y0 * line.run + up line.rise * first + down line.rise * line.x0)
    (down line.rise * first + up line.rise * line.x0) (up line.rise) (down line.rise) T f m
IsTaken-flat line first T f m floor slope =
    let height = flat_height-out line first in
    let back = times f line.run in
    let next = times (f +ℤ pos 1) line.run in
    let one : up (f +ℤ pos 1) + down f ≡ down (f +ℤ pos 1) + up f + 1 = omega (arith, ints) in
    let one_run = ap (λ (t : ℕ). t * line.run) one in
    let (from, least) = IsRoundedUp-out line.rise line.run T m slope in
    record {
      floor = omega (arith, ints, floor.not_above, height, back);
      next = omega (arith, ints, floor.greatest, height, next, one_run);
      slope = omega arith;
      least = omega arith;
    }

pub IsAt-steep : (p : Points) (eps : ℕ) (line : Line) (positive : 0 < line.run) (first dx j : ℕ) →
    p.x j ≡ first + dx → IsWithin p eps (rational line positive) j →
    IsAt line.run (up line.y0 * line.run + line.rise * first)
    (down line.y0 * line.run + line.rise * line.x0) line.rise 0 dx (p.y j) eps
IsAt-steep p eps line positive first dx j right within =
    let reach : line.rise * p.x j ≡ line.rise * first + line.rise * dx = ap
    (λ (x : ℕ). line.rise * x) right ∙ omega arith in
    let base = times line.y0 line.run in
    let above = IsWithin-above p eps (rational line positive) j within in
    let below = IsWithin-below p eps (rational line positive) j within in
    record { above = omega (arith, ints, above, reach, base); below = omega (arith, ints, below, reach, base) }

pub IsAt-flat : (p : Points) (eps : ℕ) (line : FlatLine) (positive : 0 < line.run) (first dx j : ℕ) →
    p.x j ≡ first + dx → IsWithin p eps (rational_flat line positive) j →
    IsAt line.run (line.y0 * line.run + up line.rise * first + down line.rise * line.x0)
    (down line.rise * first + up line.rise * line.x0) (up line.rise) (down line.rise) dx (p.y j) eps
IsAt-flat p eps line positive first dx j right within =
    let up_reach : up line.rise * p.x j ≡ up line.rise * first + up line.rise * dx = ap
    (λ (x : ℕ). up line.rise * x) right ∙ omega arith in
    let down_reach : down line.rise * p.x j ≡ down line.rise * first + down line.rise * dx = ap
    (λ (x : ℕ). down line.rise * x) right ∙ omega arith in
    let base = times line.rise line.x0 in
    let above = IsWithin-above p eps (rational_flat line positive) j within in
    let below = IsWithin-below p eps (rational_flat line positive) j within in
    record {
      above = omega (arith, ints, above, up_reach, down_reach, base);
      below = omega
          (arith, ints, below, up_reach, down_reach, base);
    }

pub x_at_most : (p : Points) (i j : ℕ) → IsAscending p → i ≤ j → j < p.count → p.x i ≤ p.x j
x_at_most p i j ascends low inside = elim (cases_lt i j) [
  | inl less ↦ omega (arith, ascends.x_rises i j less inside)
  | inr same ↦ let here : i ≡ j = omega arith in omega (arith, ap p.x here)
]

-- a slope that stays within e of two heights climbs no further than these are apart, and e twice
pub climbs : (r high low a b dx y z e : ℕ) → IsAt r high low a b 0 y e → IsAt r high low a b dx z e →
    (a * dx + r * y ≤ b * dx + r * z + r * e + r * e) × (b * dx + r * z ≤ a * dx + r * y + r * e + r * e)
climbs r high low a b dx y z e first last = (
  omega (arith, first.below, last.above),
  omega
      (arith, first.above, last.below),
)

-- the hints of the line in the middle are right at each place of the run
pub TellsPoints-from_lines : (p : Points) (eps s e : ℕ) (line : Line) (flat : FlatLine)
    (first multiplier packed places height : ℕ) (f g : ℤ) → IsAscending p → e ≤ p.count → first ≡ p.x s → s < e →
    AreLinesOfRun p eps s e line flat → IsFloorAt line first f → IsFlatFloorAt flat first g → IsSumOfSlopes line flat
    (2 ^ places) multiplier → p.x (e - 1) - first < 2 ^ places →
    pos (2 * height) ≤ℤ (f +ℤ g +ℤ pos (1 + 2 * eps)) → (f +ℤ g +ℤ pos (1 + 2 * eps)) ≤ℤ pos (2 * height + 1) →
    packed / 128 ≡ height → packed % 128 ≡ places + 1 →
    TellsPoints p eps first multiplier packed s e
TellsPoints-from_lines p eps s e line flat first multiplier packed places height f g ascends within
    begins some lines floor flat_floor slopes short low high top shift = record {
      begins = begins;
      not_below = λ j from to. (near j from to).0;
      not_above = λ j from to. (near j from to).1;
    }
  where
    T : ℕ
    T = 2 ^ places

    wide : 2 ^ (packed % 128) ≡ 2 * 2 ^ places
    wide = ap (λ (n : ℕ). 2 ^ n) shift ∙ pow-add 2 places 1 ∙ omega arith

    near : (j : ℕ) → s ≤ j → j < e → (p.y j ≤ raised_by first multiplier packed (p.x j) + 1) ×
        (raised_by first multiplier packed (p.x j) ≤ p.y j + 2 * eps + 1)
    near j from to =
        let positive = pow_pos places in
        let right : p.x j ≡ first + (p.x j - first) = omega
        (arith, begins, x_at_most p s j ascends from (omega arith)) in
        let before : p.x j - first < 2 ^ places = omega
        (arith, short, x_at_most p j (e - 1) ascends (omega arith) (omega arith)) in
        let steep = IsTaken-steep line first (2 ^ places) f slopes.steep floor slopes.steep_is in
        let level = IsTaken-flat flat first (2 ^ places) g slopes.flat flat_floor slopes.flat_is in
        let steep_at = IsAt-steep p eps line lines.in_range.positive first (p.x j - first) j right
        (lines.fits j from to) in
        let level_at = IsAt-flat p eps flat lines.flat_in_range.positive first (p.x j - first) j right
        (lines.flat_fits j from to) in
        let k = (p.x j - first) * multiplier / 2 ^ (packed % 128) in
        let whole = div-mul-le_self ((p.x j - first) * multiplier) (2 ^ (packed % 128)) in
        let rest = lt-div-mul-add {a = (p.x j - first) * multiplier} {b = 2 ^ (packed % 128)}
        (pow_pos (packed % 128)) in
        let scaled = ap (λ (n : ℕ). (p.x j - first) * multiplier / 2 ^ (packed % 128) * n) wide in
        let both = both_near (p.y j) eps height k multiplier (2 ^ places)
        (p.x j - first) f g slopes.steep slopes.flat positive before (omega (arith, ints, low))
        (omega (arith, ints, high)) (omega (arith, ints, slopes.sum))
        (half_above _ _ _ _ _ _ _ _ _ f slopes.steep lines.in_range.positive before steep steep_at)
        (half_below _ _ _ _ _ _ _ _ _ f slopes.steep positive steep steep_at)
        (half_above _ _ _ _ _ _ _ _ _ g slopes.flat lines.flat_in_range.positive before level level_at)
        (half_below _ _ _ _ _ _ _ _ _ g slopes.flat positive level level_at)
        (omega (arith, whole, scaled)) (omega (arith, rest, scaled, wide)) in
        (omega (arith, both.0, top), omega (arith, both.1, top))
