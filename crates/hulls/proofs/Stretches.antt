-- Places at even steps: what the first two and the last of them ask of lines and slopes, those between ask as well.
use Rattle.std.proofs.Common.{◌≡◌, ℕ, ◌+◌, ◌*◌, ◌-◌, ◌^◌, ◌<◌, ◌≤◌, inl, inr, ap, arith}
use Rattle.std.proofs.Math.Nat.{mul-le-mul_right, le_of_mul-le-mul_right}
use Rattle.std.proofs.lemmas.Bool.{cases_lt}
use borrow.Author.Differences.{up, down}
use Rattle.exact_cross.specs.declared.slope.Slope.{Slope}
use Rattle.exact_cross.specs.Points.{Points}
use Rattle.exact_cross.specs.Lines.{RationalLine, IsWithin}
use Rattle.exact_cross.specs.Slopes.{IsAtMost, steep_slope}
use Rattle.exact_cross.proofs.CallerLemmas.{IsWithin-above, IsWithin-below, IsWithin-in}
use Rattle.hulls.specs.Hull.{IsUnderChord, IsUnderLine, IsPassed, RiseRight}
use Rattle.hulls.specs.Hulls.{AreEven, mirrored}
use Rattle.hulls.proofs.RaisedSlopes.{at_most-out, at_most-in, at_least-out, at_least-in, under-out, under-in}
use Rattle.hulls.proofs.Tangents.{not_right}

-- ---- a point that parts the way between two others, in naturals

-- where both ends, lifted, lie on or over a line through (far, low), so does what is between
between_over : (up down run far low lift xl yl xd yd xm ym g h : ℕ) →
    0 < g + h → xd * (g + h) ≡ xl * h + xm * g → yd * (g + h) ≡ yl * h + ym * g →
    up * xl + low * run + down * far ≤ (yl + lift) * run + down * xl + up * far →
    up * xm + low * run + down * far ≤ (ym + lift) * run + down * xm + up * far →
    up * xd + low * run + down * far ≤ (yd + lift) * run + down * xd + up * far
between_over up down run far low lift xl yl xd yd xm ym g h wide xs ys left right =
    le_of_mul-le-mul_right {k = g + h}
    (omega (
      arith,
      mul-le-mul_right h left,
      mul-le-mul_right g right,
      ap (λ (t : ℕ). up * t) xs,
      ap (λ (t : ℕ). down * t) xs,
      ap (λ (t : ℕ). t * run) ys,
    )) wide

-- where what is between isn't over it, but the right end is, the left end isn't
left_not_over : (up down run far low lift xl yl xd yd xm ym g h : ℕ) →
    0 < h → xd * (g + h) ≡ xl * h + xm * g → yd * (g + h) ≡ yl * h + ym * g →
    (yd + lift) * run + down * xd + up * far ≤ up * xd + low * run + down * far →
    up * xm + low * run + down * far ≤ (ym + lift) * run + down * xm + up * far →
    (yl + lift) * run + down * xl + up * far ≤ up * xl + low * run + down * far
left_not_over up down run far low lift xl yl xd yd xm ym g h wide xs ys middle right =
    le_of_mul-le-mul_right {k = h}
    (omega (
      arith,
      mul-le-mul_right (g + h) middle,
      mul-le-mul_right g right,
      ap (λ (t : ℕ). up * t) xs,
      ap (λ (t : ℕ). down * t) xs,
      ap (λ (t : ℕ). t * run) ys,
    )) wide

-- where both ends lie on or under a line, so does what is between
between_under : (up down run far high xl yl xd yd xm ym g h : ℕ) →
    0 < g + h → xd * (g + h) ≡ xl * h + xm * g → yd * (g + h) ≡ yl * h + ym * g →
    yl * run + up * far + down * xl ≤ high * run + up * xl + down * far →
    ym * run + up * far + down * xm ≤ high * run + up * xm + down * far →
    yd * run + up * far + down * xd ≤ high * run + up * xd + down * far
between_under up down run far high xl yl xd yd xm ym g h wide xs ys left right =
    le_of_mul-le-mul_right {k = g + h}
    (omega (
      arith,
      mul-le-mul_right h left,
      mul-le-mul_right g right,
      ap (λ (t : ℕ). up * t) xs,
      ap (λ (t : ℕ). down * t) xs,
      ap (λ (t : ℕ). t * run) ys,
    )) wide

-- a line at most `slack` over both ends is so over what is between, and the same under them
between_above : (rise fall icpt drop den slack xl yl xd yd xm ym g h : ℕ) →
    0 < g + h → xd * (g + h) ≡ xl * h + xm * g → yd * (g + h) ≡ yl * h + ym * g →
    rise * xl + icpt ≤ fall * xl + drop + den * yl + slack → rise * xm + icpt ≤ fall * xm + drop + den * ym + slack →
    rise * xd + icpt ≤ fall * xd + drop + den * yd + slack
between_above rise fall icpt drop den slack xl yl xd yd xm ym g h wide xs ys left right =
    le_of_mul-le-mul_right {k = g + h}
    (omega (
      arith,
      mul-le-mul_right h left,
      mul-le-mul_right g right,
      ap (λ (t : ℕ). rise * t) xs,
      ap (λ (t : ℕ). fall * t) xs,
      ap (λ (t : ℕ). den * t) ys,
    )) wide

between_below : (rise fall icpt drop den slack xl yl xd yd xm ym g h : ℕ) →
    0 < g + h → xd * (g + h) ≡ xl * h + xm * g → yd * (g + h) ≡ yl * h + ym * g →
    fall * xl + drop + den * yl ≤ rise * xl + icpt + slack → fall * xm + drop + den * ym ≤ rise * xm + icpt + slack →
    fall * xd + drop + den * yd ≤ rise * xd + icpt + slack
between_below rise fall icpt drop den slack xl yl xd yd xm ym g h wide xs ys left right =
    le_of_mul-le-mul_right {k = g + h}
    (omega (
      arith,
      mul-le-mul_right h left,
      mul-le-mul_right g right,
      ap (λ (t : ℕ). rise * t) xs,
      ap (λ (t : ℕ). fall * t) xs,
      ap (λ (t : ℕ). den * t) ys,
    )) wide

-- ---- places at even steps

-- the place d parts the way from l to m
pub record Parts (q : Points) (l d m : ℕ) : Type 0 where
  pub x : q.x d * ((d - l) + (m - d)) ≡ q.x l * (m - d) + q.x m * (d - l)
  pub y : q.y d * ((d - l) + (m - d)) ≡ q.y l * (m - d) + q.y m * (d - l)

parts_x : (x0 step xl xd xm u g h : ℕ) →
    xl ≡ x0 + u * step → xd ≡ x0 + (u + g) * step → xm ≡ x0 + (u + g + h) * step → xd * (g + h) ≡ xl * h + xm * g
parts_x x0 step xl xd xm u g h is_l is_d is_m = rw (is_l, is_d, is_m) (omega arith)

parts_y : (y0 climb fall yl yd ym u g h : ℕ) → yl + u * fall ≡ y0 + u * climb →
    yd + (u + g) * fall ≡ y0 + (u + g) * climb → ym + (u + g + h) * fall ≡ y0 + (u + g + h) * climb →
    yd * (g + h) ≡ yl * h + ym * g
parts_y y0 climb fall yl yd ym u g h is_l is_d is_m =
    omega (arith, ap (λ (t : ℕ). t * h) is_l, ap (λ (t : ℕ). t * (g + h)) is_d, ap (λ (t : ℕ). t * g) is_m)

pub Parts-even : (q : Points) (i l d m : ℕ) → AreEven q i m → i ≤ l → l ≤ d → d ≤ m → Parts q l d m
Parts-even q i l d m even from low high =
    let u = l - i in
    let g = d - l in
    let h = m - d in
    let to_d : d - i ≡ u + g = omega arith in
    let to_m : m - i ≡ u + g + h = omega arith in
    record {
      x = parts_x (q.x i) even.step (q.x l) (q.x d) (q.x m) u g h (even.x l from (omega arith))
          (rw to_d at (even.x d (omega arith) high)) (rw to_m at (even.x m (omega arith) (omega arith)));
      y = parts_y (q.y i) even.climb even.fall (q.y l) (q.y d) (q.y m) u g h (even.y l from (omega arith))
          (rw to_d at (even.y d (omega arith) high)) (rw to_m at (even.y m (omega arith) (omega arith)));
    }

-- the chord from l to m passes through d
pub chord-even : (q : Points) (i l d m : ℕ) → AreEven q i m → i ≤ l → l ≤ d → d ≤ m → IsUnderChord q l d m
chord-even q i l d m even from low high =
    let parts = Parts-even q i l d m even from low high in
    let step = even.step in
    let to_l = even.x l from (omega arith) in
    let to_d = even.x d (omega arith) high in
    let to_m = even.x m (omega arith) (omega arith) in
    let u = l - i in
    let g = d - l in
    let h = m - d in
    let steps_d : d - i ≡ u + g = omega arith in
    let steps_m : m - i ≡ u + g + h = omega arith in
    let gap_ld : q.x d - q.x l ≡ g * step = omega (arith, to_l, rw steps_d at to_d) in
    let gap_dm : q.x m - q.x d ≡ h * step = omega (arith, rw steps_m at to_m, rw steps_d at to_d) in
    let gap_lm : q.x m - q.x l ≡ (g + h) * step = omega (arith, rw steps_m at to_m, to_l) in
    record { under = rw (gap_ld, gap_dm, gap_lm) (omega (arith, ap (λ (t : ℕ). t * step) parts.y)) }

-- upside down they are at even steps as well
turned_even : (yk yi n climb fall : ℕ) → yk < 2 ^ 32 →
    yi < 2 ^ 32 → yk + n * fall ≡ yi + n * climb → (4294967295 - yk) + n * climb ≡ (4294967295 - yi) + n * fall
turned_even yk yi n climb fall low_k low_i even = omega (arith, even)

pub AreEven-mirrored : (p : Points) (i m : ℕ) →
    i ≤ m → ((k : ℕ) → i ≤ k → k ≤ m → p.y k < 2 ^ 32) → AreEven p i m → AreEven (mirrored p) i m
AreEven-mirrored p i m some low even = record {
  step = even.step;
  climb = even.fall;
  fall = even.climb;
  x = even.x;
  y = λ k from to. turned_even
      (p.y k) (p.y i) (k - i) even.climb even.fall (low k from to) (low i (omega arith) some) (even.y k from to);
}

-- a part of them
pub AreEven-part : (p : Points) (i m to : ℕ) → to ≤ m → AreEven p i m → AreEven p i to
AreEven-part p i m to within even =
    record {
      step = even.step;
      climb = even.climb;
      fall = even.fall;
      x = λ k low high. even.x k low (omega arith);
      y = λ k low high. even.y k low (omega arith);
    }

-- ---- lines and slopes

pub under-between : (q : Points) (a : ℕ) (slope : Slope) (l d m : ℕ) →
    l < m → Parts q l d m → l ≤ d → d ≤ m → IsUnderLine q a slope l → IsUnderLine q a slope m → IsUnderLine q a slope d
under-between q a slope l d m wide parts low high left right =
    under-in q a slope d
    (between_under (up slope.rise)
    (down slope.rise) slope.run (q.x a) (q.y a) (q.x l) (q.y l) (q.x d) (q.y d) (q.x m) (q.y m) (d - l) (m - d)
    (omega arith) parts.x parts.y (under-out q a slope l left) (under-out q a slope m right))

pub within-between : (p : Points) (eps : ℕ) (line : RationalLine) (l d m : ℕ) →
    l < m → Parts p l d m → l ≤ d → d ≤ m → IsWithin p eps line l → IsWithin p eps line m → IsWithin p eps line d
within-between p eps line l d m wide parts low high left right =
    IsWithin-in p eps line d
    (between_above (up line.num) (down line.num) (up line.icpt)
    (down line.icpt) line.den (line.den * eps) (p.x l) (p.y l) (p.x d) (p.y d) (p.x m) (p.y m) (d - l) (m - d)
    (omega arith) parts.x parts.y (IsWithin-above p eps line l left) (IsWithin-above p eps line m right))
    (between_below (up line.num) (down line.num) (up line.icpt)
    (down line.icpt) line.den (line.den * eps) (p.x l) (p.y l) (p.x d) (p.y d) (p.x m) (p.y m) (d - l) (m - d)
    (omega arith) parts.x parts.y (IsWithin-below p eps line l left) (IsWithin-below p eps line m right))

-- the slope from c, left of them, to what is between
at_most-between : (q : Points) (eps c l d m : ℕ) (slope : Slope) →
    RiseRight q → m < q.count → c < l → l < m → Parts q l d m → l ≤ d → d ≤ m →
    IsAtMost slope (steep_slope q eps c l) →
    IsAtMost slope (steep_slope q eps c m) → IsAtMost slope (steep_slope q eps c d)
at_most-between q eps c l d m slope right inside before wide parts low high left_end right_end =
    at_most-in q eps c d slope (not_right q c d right (omega arith) (omega arith))
    (between_over (up slope.rise) (down slope.rise) slope.run (q.x c)
    (q.y c) (2 * eps) (q.x l) (q.y l) (q.x d) (q.y d) (q.x m) (q.y m) (d - l) (m - d) (omega arith) parts.x parts.y
    (at_most-out q eps c l slope (not_right q c l right (omega arith) (omega arith)) left_end)
    (at_most-out q eps c m slope (not_right q c m right (omega arith) inside) right_end))

less-between : (q : Points) (eps c l d m : ℕ) (slope : Slope) →
    RiseRight q → m < q.count → c < l → Parts q l d m → l ≤ d → d < m →
    (IsAtMost (steep_slope q eps c l) slope → ⊥) →
    IsAtMost slope (steep_slope q eps c m) → IsAtMost (steep_slope q eps c d) slope → ⊥
less-between q eps c l d m slope right inside before parts low high left_end right_end most =
    left_end (at_least-in q eps c l slope (not_right q c l right (omega arith) (omega arith))
    (left_not_over (up slope.rise) (down slope.rise) slope.run (q.x c)
    (q.y c) (2 * eps) (q.x l) (q.y l) (q.x d) (q.y d) (q.x m) (q.y m) (d - l) (m - d) (omega arith) parts.x parts.y
    (at_least-out q eps c d slope (not_right q c d right (omega arith) (omega arith)) most)
    (at_most-out q eps c m slope (not_right q c m right (omega arith) inside) right_end)))

-- two places as far apart as two others have the same slope
record IsShifted (q : Points) (i j c d : ℕ) : Type 0 where
  x : q.x d + q.x i ≡ q.x j + q.x c
  y : q.y d + q.y i ≡ q.y j + q.y c

shifted_y : (y0 climb fall yc yd yj n k : ℕ) → yc + n * fall ≡ y0 + n * climb →
    yd + (n + k) * fall ≡ y0 + (n + k) * climb → yj + k * fall ≡ y0 + k * climb → yd + y0 ≡ yj + yc
shifted_y y0 climb fall yc yd yj n k is_c is_d is_j = omega (arith, is_c, is_d, is_j)

IsShifted-even : (q : Points) (i m c d : ℕ) → AreEven q i m → i ≤ c → c ≤ d → d ≤ m → IsShifted q i (i + (d - c)) c d
IsShifted-even q i m c d even from order to =
    let n = c - i in
    let k = d - c in
    let j = i + k in
    let steps_d : d - i ≡ n + k = omega arith in
    let steps_j : j - i ≡ k = omega arith in
    let x_c = even.x c from (omega arith) in
    let x_d = rw steps_d at (even.x d (omega arith) to) in
    let x_j = rw steps_j at (even.x j (omega arith) (omega arith)) in
    record {
      x = omega (arith, x_c, x_d, x_j);
      y = shifted_y (q.y i) even.climb even.fall (q.y c) (q.y d) (q.y j) n k (even.y c from (omega arith))
          (rw steps_d at (even.y d (omega arith) to)) (rw steps_j at (even.y j (omega arith) (omega arith)));
    }

at_most-shifted : (q : Points) (eps i j c d : ℕ) (slope : Slope) → q.x i ≤ q.x j → q.x c ≤ q.x d →
    IsShifted q i j c d → IsAtMost slope (steep_slope q eps i j) → IsAtMost slope (steep_slope q eps c d)
at_most-shifted q eps i j c d slope right_i right_c shift most =
    at_most-in q eps c d slope right_c (omega (
      arith,
      at_most-out q eps i j slope right_i most,
      ap (λ (t : ℕ). up slope.rise * t) shift.x,
      ap (λ (t : ℕ). down slope.rise * t) shift.x,
      ap (λ (t : ℕ). t * slope.run) shift.y,
    ))

at_least-shifted : (q : Points) (eps i j c d : ℕ) (slope : Slope) → q.x i ≤ q.x j → q.x c ≤ q.x d →
    IsShifted q i j c d → IsAtMost (steep_slope q eps c d) slope → IsAtMost (steep_slope q eps i j) slope
at_least-shifted q eps i j c d slope right_i right_c shift most =
    at_least-in q eps i j slope right_i (omega (
      arith,
      at_least-out q eps c d slope right_c most,
      ap (λ (t : ℕ). up slope.rise * t) shift.x,
      ap (λ (t : ℕ). down slope.rise * t) shift.x,
      ap (λ (t : ℕ). t * slope.run) shift.y,
    ))

-- ---- a run that goes on past them

pub IsPassed-next : (q : Points) (eps s e : ℕ) → IsPassed q eps s e e
IsPassed-next q eps s e = record {
  order = omega arith;
  under = λ a slope last new c from to. absurd (omega arith);
  least = λ slope old new c d pair late at_end.
      absurd (omega (arith, pair.rises, pair.to_end, at_end (omega (arith, pair.to_end))));
  less = λ slope old new c d pair late at_end.
      absurd (omega (arith, pair.rises, pair.to_end, at_end (omega (arith, pair.to_end))));
}

pub IsPassed-even : (q : Points) (eps s e m : ℕ) →
    RiseRight q → m < q.count → s + 2 ≤ e → e ≤ m → AreEven q (e - 2) m → IsPassed q eps s e m
IsPassed-even q eps s e m right inside two further even = record {
  order = further;
  under = λ a slope last new c from to. under-between q a slope
      (e - 1) c m (omega arith) (Parts-even q (e - 2) (e - 1) c m even (omega arith) (omega arith) (omega arith))
      (omega arith) (omega arith) last new;
  least = λ slope old new c d pair late at_end.
      let rises = pair.rises in
      let to_end = pair.to_end in
      elim (cases_lt c (e - 1)) [
        | inl before ↦ elim (cases_lt d m) [
          | inl short ↦ at_most-between q eps c (e - 1) d m slope right inside before
              (omega arith) (Parts-even q (e - 2) (e - 1) d m even (omega arith) (omega arith) (omega arith))
              (omega arith) (omega arith)
              (old c (e - 1) (record { from_start = pair.from_start; rises = before; to_end = omega arith }))
              (new c pair.from_start (omega arith))
          | inr end ↦ absurd (omega (arith, at_end (omega arith)))
        ]
        | inr on ↦
            let i = e - 2 in
            let j = i + (d - c) in
            at_most-shifted q eps i j c d slope
            (not_right q i j right (omega arith) (omega arith)) (not_right q c d right (omega arith) (omega arith))
            (IsShifted-even q i m c d even (omega arith) (omega arith) (omega arith))
            (at_most-between q eps i (e - 1) j m slope right inside (omega arith) (omega arith)
            (Parts-even q i (e - 1) j m even (omega arith) (omega arith) (omega arith)) (omega arith) (omega arith)
            (old i (e - 1) (record { from_start = omega arith; rises = omega arith; to_end = omega arith }))
            (new i (omega arith) (omega arith)))
      ];
  less = λ slope old new c d pair late at_end most.
      let rises = pair.rises in
      let to_end = pair.to_end in
      elim (cases_lt c (e - 1)) [
        | inl before ↦ elim (cases_lt d m) [
          | inl short ↦ less-between q eps c (e - 1) d m slope right inside before
              (Parts-even q (e - 2) (e - 1) d m even (omega arith) (omega arith) (omega arith)) (omega arith) short
              (old c (e - 1) (record { from_start = pair.from_start; rises = before; to_end = omega arith }))
              (new c pair.from_start (omega arith)) most
          | inr end ↦ absurd (omega (arith, at_end (omega arith)))
        ]
        | inr on ↦
            let i = e - 2 in
            let j = i + (d - c) in
            less-between q eps i (e - 1) j m slope right inside (omega arith)
            (Parts-even q i (e - 1) j m even (omega arith) (omega arith) (omega arith)) (omega arith) (omega arith)
            (old i (e - 1) (record { from_start = omega arith; rises = omega arith; to_end = omega arith }))
            (new i (omega arith) (omega arith))
            (at_least-shifted q eps i j c d slope
            (not_right q i j right (omega arith) (omega arith)) (not_right q c d right (omega arith) (omega arith))
            (IsShifted-even q i m c d even (omega arith) (omega arith) (omega arith)) most)
      ];
}
