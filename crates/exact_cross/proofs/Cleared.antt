-- From whole numbers below 0 to sums of naturals: each difference is moved to the other side.
use Rattle.std.proofs.Common.{◌≡◌, ℕ, ◌+◌, ◌*◌, ◌≤◌, pos, ◌-ℤ◌, ◌*ℤ◌, ◌≤ℤ◌, ap, arith}
use Rattle.std.proofs.lemmas.Int.{ints}
use borrow.Author.Differences.{up, down}
use Rattle.exact_cross.specs.declared.slope.Slope.{Slope}
use Rattle.exact_cross.specs.Points.{Points}
use Rattle.exact_cross.specs.Lines.{RationalLine, IsWithin}
use Rattle.exact_cross.specs.Slopes.{IsAtMost}

-- (m - n) * q, as a difference of two products
pub difference_times : (m n q : ℕ) → up ((pos m -ℤ pos n) *ℤ pos q) + n * q ≡ down ((pos m -ℤ pos n) *ℤ pos q) + m * q
difference_times m n q =
    let plain : up (pos m -ℤ pos n) + n ≡ down (pos m -ℤ pos n) + m = omega (arith, ints) in
    omega (arith, ints, ap (λ (t : ℕ). t * q) plain)

-- (m - n) * q ≤ (k - l) * r, with no difference
pub products_le-out : (m n q k l r : ℕ) →
    ((pos m -ℤ pos n) *ℤ pos q) ≤ℤ ((pos k -ℤ pos l) *ℤ pos r) → m * q + l * r ≤ k * r + n * q
products_le-out m n q k l r h =
    omega (arith, ints, difference_times m n q, difference_times k l r)

pub products_le-in : (m n q k l r : ℕ) →
    m * q + l * r ≤ k * r + n * q → ((pos m -ℤ pos n) *ℤ pos q) ≤ℤ ((pos k -ℤ pos l) *ℤ pos r)
products_le-in m n q k l r h =
    omega (arith, ints, difference_times m n q, difference_times k l r)

-- the order of two slopes, with no difference
pub IsAtMost-out : (f g : Slope) →
    IsAtMost f g → up f.rise * g.run + down g.rise * f.run ≤ up g.rise * f.run + down f.rise * g.run
IsAtMost-out f g h = omega (arith, ints, h.at_most)

pub IsAtMost-in : (f g : Slope) →
    up f.rise * g.run + down g.rise * f.run ≤ up g.rise * f.run + down f.rise * g.run → IsAtMost f g
IsAtMost-in f g h = record { at_most = omega (arith, ints) }

-- the line passes the place at most eps above its point, and at most eps below it
pub IsWithin-above : (p : Points) (eps : ℕ) (line : RationalLine) (j : ℕ) → IsWithin p eps line j →
    up line.num * p.x j + up line.icpt ≤ down line.num * p.x j + down line.icpt + line.den * p.y j + line.den * eps
IsWithin-above p eps line j h = omega (arith, ints, h.near)

pub IsWithin-below : (p : Points) (eps : ℕ) (line : RationalLine) (j : ℕ) → IsWithin p eps line j →
    down line.num * p.x j + down line.icpt + line.den * p.y j ≤ up line.num * p.x j + up line.icpt + line.den * eps
IsWithin-below p eps line j h = omega (arith, ints, h.near)

pub IsWithin-in : (p : Points) (eps : ℕ) (line : RationalLine) (j : ℕ) →
    up line.num * p.x j + up line.icpt ≤ down line.num * p.x j + down line.icpt + line.den * p.y j + line.den * eps →
    down line.num * p.x j + down line.icpt + line.den * p.y j ≤ up line.num * p.x j + up line.icpt + line.den * eps →
    IsWithin p eps line j
IsWithin-in p eps line j above below = record { near = omega (arith, ints) }
