-- Slopes to a lifted point, as lines: a slope is at most that from c to
-- eps above e exactly where the line through c with it passes under there.
use Rattle.std.proofs.Common.{◌≡◌, ℕ, ◌+◌, ◌*◌, ◌-◌, ◌<◌, ◌≤◌, ℤ, pos, ◌-ℤ◌, ◌*ℤ◌, inl, inr, ap, arith}
use Rattle.std.proofs.lemmas.Int.{ints}
use Rattle.std.proofs.lemmas.Bool.{cases_lt}
use borrow.Author.Differences.{up, down}
use Rattle.exact_cross.specs.declared.slope.Slope.{Slope}
use Rattle.exact_cross.specs.Points.{Points}
use Rattle.exact_cross.specs.Slopes.{IsAtMost, steep_slope}
use Rattle.exact_cross.proofs.CallerLemmas.{IsAtMost-out, IsAtMost-in}
use Rattle.hulls.specs.Hull.{IsUnderLine}
use Rattle.hulls.proofs.Chords.{less_steep_left}

-- a difference of naturals, times a natural
difference_scaled : (m n r : ℕ) → up (pos m -ℤ pos n) * r + n * r ≡ down (pos m -ℤ pos n) * r + m * r
difference_scaled m n r =
    let plain : up (pos m -ℤ pos n) + n ≡ down (pos m -ℤ pos n) + m = omega (arith, ints) in
    omega (arith, ap (λ (t : ℕ). t * r) plain)

-- a whole number times a natural, as a difference of two products
whole_times : (z : ℤ) (r : ℕ) → up (z *ℤ pos r) + down z * r ≡ down (z *ℤ pos r) + up z * r
whole_times z r = omega (arith, ints)

pub at_most-out : (q : Points) (eps c e : ℕ) (m : Slope) → q.x c ≤ q.x e → IsAtMost m (steep_slope q eps c e) →
    up m.rise * q.x e + q.y c * m.run + down m.rise * q.x c
    ≤ (q.y e + 2 * eps) * m.run + down m.rise * q.x e + up m.rise * q.x c
at_most-out q eps c e m right h =
    let spans : q.x e ≡ q.x c + (q.x e - q.x c) = omega arith in
    omega (
      arith,
      IsAtMost-out m (steep_slope q eps c e) h,
      difference_scaled (q.y e + 2 * eps) (q.y c) m.run,
      ap (λ (t : ℕ). up m.rise * t) spans,
      ap (λ (t : ℕ). down m.rise * t) spans,
    )

pub at_most-in : (q : Points) (eps c e : ℕ) (m : Slope) → q.x c ≤ q.x e →
    up m.rise * q.x e + q.y c * m.run + down m.rise * q.x c
    ≤ (q.y e + 2 * eps) * m.run + down m.rise * q.x e + up m.rise * q.x c →
    IsAtMost m (steep_slope q eps c e)
at_most-in q eps c e m right h =
    let spans : q.x e ≡ q.x c + (q.x e - q.x c) = omega arith in
    IsAtMost-in m (steep_slope q eps c e) (omega (
      arith,
      h,
      difference_scaled (q.y e + 2 * eps) (q.y c) m.run,
      ap (λ (t : ℕ). up m.rise * t) spans,
      ap (λ (t : ℕ). down m.rise * t) spans,
    ))

pub at_least-out : (q : Points) (eps c e : ℕ) (m : Slope) → q.x c ≤ q.x e → IsAtMost (steep_slope q eps c e) m →
    (q.y e + 2 * eps) * m.run + down m.rise * q.x e + up m.rise * q.x c
    ≤ up m.rise * q.x e + q.y c * m.run + down m.rise * q.x c
at_least-out q eps c e m right h =
    let spans : q.x e ≡ q.x c + (q.x e - q.x c) = omega arith in
    omega (
      arith,
      IsAtMost-out (steep_slope q eps c e) m h,
      difference_scaled (q.y e + 2 * eps) (q.y c) m.run,
      ap (λ (t : ℕ). up m.rise * t) spans,
      ap (λ (t : ℕ). down m.rise * t) spans,
    )

pub at_least-in : (q : Points) (eps c e : ℕ) (m : Slope) → q.x c ≤ q.x e →
    (q.y e + 2 * eps) * m.run + down m.rise * q.x e + up m.rise * q.x c
    ≤ up m.rise * q.x e + q.y c * m.run + down m.rise * q.x c →
    IsAtMost (steep_slope q eps c e) m
at_least-in q eps c e m right h =
    let spans : q.x e ≡ q.x c + (q.x e - q.x c) = omega arith in
    IsAtMost-in (steep_slope q eps c e) m (omega (
      arith,
      h,
      difference_scaled (q.y e + 2 * eps) (q.y c) m.run,
      ap (λ (t : ℕ). up m.rise * t) spans,
      ap (λ (t : ℕ). down m.rise * t) spans,
    ))

pub under-out : (q : Points) (a : ℕ) (m : Slope) (c : ℕ) → IsUnderLine q a m c →
    q.y c * m.run + up m.rise * q.x a + down m.rise * q.x c ≤ q.y a * m.run + up m.rise * q.x c + down m.rise * q.x a
under-out q a m c h = omega (arith, ints, h.under, whole_times m.rise (q.x a), whole_times m.rise (q.x c))

pub under-in : (q : Points) (a : ℕ) (m : Slope) (c : ℕ) →
    q.y c * m.run + up m.rise * q.x a + down m.rise * q.x c ≤ q.y a * m.run + up m.rise * q.x c + down m.rise * q.x a →
    IsUnderLine q a m c
under-in q a m c h = record { under = omega (arith, ints, h, whole_times m.rise (q.x a), whole_times m.rise (q.x c)) }

-- eps above e lies on the line through a with the slope to there
pub on_own_line : (q : Points) (eps a e : ℕ) → q.x a ≤ q.x e →
    (q.y e + 2 * eps) * (q.x e - q.x a)
    + down (steep_slope q eps a e).rise * q.x e + up (steep_slope q eps a e).rise * q.x a
    ≡ up (steep_slope q eps a e).rise * q.x e + q.y a * (q.x e - q.x a) + down (steep_slope q eps a e).rise * q.x a
on_own_line q eps a e right =
    let spans : q.x e ≡ q.x a + (q.x e - q.x a) = omega arith in
    omega (
      arith,
      difference_scaled (q.y e + 2 * eps) (q.y a) (q.x e - q.x a),
      ap (λ (t : ℕ). up (steep_slope q eps a e).rise * t) spans,
      ap (λ (t : ℕ). down (steep_slope q eps a e).rise * t) spans,
    )

-- a line under which c lies, and which passes under e: its slope is at most that from c
pub at_most-from_line : (q : Points) (eps a c e : ℕ) (m : Slope) → q.x a ≤ q.x e → q.x c ≤ q.x e → IsUnderLine q a m c →
    IsAtMost m (steep_slope q eps a e) → IsAtMost m (steep_slope q eps c e)
at_most-from_line q eps a c e m right_a right_c under most =
    at_most-in q eps c e m right_c (omega (arith, under-out q a m c under, at_most-out q eps a e m right_a most))

-- what is no steeper to e than a lies under the line from a to there, and so does e itself
pub under-from_at_most : (q : Points) (eps a c e : ℕ) →
    q.x a ≤ q.x e → q.x c ≤ q.x e → IsAtMost (steep_slope q eps a e) (steep_slope q eps c e) →
    IsUnderLine q a (steep_slope q eps a e) c
under-from_at_most q eps a c e right_a right_c most =
    under-in q a (steep_slope q eps a e) c
    (omega (arith, at_most-out q eps c e (steep_slope q eps a e) right_c most, on_own_line q eps a e right_a))

pub under_own_line : (q : Points) (eps a e : ℕ) → q.x a ≤ q.x e → IsUnderLine q a (steep_slope q eps a e) e
under_own_line q eps a e right = under-in q a (steep_slope q eps a e) e (omega (arith, on_own_line q eps a e right))

-- where the line through a is steeper than from a to e, each point under it left of a is steeper to e
pub steeper_left : (q : Points) (eps a c e : ℕ) (m : Slope) →
    q.x c < q.x a → q.x a < q.x e → 0 < m.run → IsUnderLine q a m c →
    (IsAtMost m (steep_slope q eps a e) → ⊥) → IsAtMost (steep_slope q eps c e) (steep_slope q eps a e) → ⊥
steeper_left q eps a c e m left right positive under below most =
    let own = steep_slope q eps a e in
    let spans : q.x a ≡ q.x c + (q.x a - q.x c) = omega arith in
    elim (cases_lt (up own.rise * m.run + down m.rise * own.run) (up m.rise * own.run + down own.rise * m.run)) [
      | inr more ↦ below (IsAtMost-in m own more)
      | inl less ↦
          let strictly = less_steep_left (up m.rise)
          (down m.rise) m.run (up own.rise) (down own.rise) own.run (q.x a) (q.y a) (q.x c) (q.y c) (q.x a - q.x c)
          spans (omega arith) positive (under-out q a m c under) less in
          omega (arith, strictly, at_least-out q eps c e own (omega arith) most, on_own_line q eps a e (omega arith))
    ]
