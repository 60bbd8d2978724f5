-- Slopes over positive runs are in a linear order.
--
-- Main results: `IsAtMost-refl`, `IsAtMost-trans`, `IsAtMost-total`.
-- A slope is a fraction that need not be reduced, and the
-- order is that of the cross products; in the middle of a chain the run is positive, so it can be divided out.
use Rattle.std.proofs.Common.{◌⊎◌, ℕ, ◌+◌, ◌*◌, ◌<◌, ◌≤◌, inl, inr, arith}
use Rattle.std.proofs.Math.Nat.{mul-le-mul_right, le_of_mul-le-mul_right}
use Rattle.std.proofs.lemmas.Bool.{cases_lt}
use borrow.Author.Differences.{up, down}
use Rattle.exact_cross.specs.declared.slope.Slope.{Slope}
use Rattle.exact_cross.specs.Slopes.{IsAtMost}
use Rattle.exact_cross.proofs.Cleared.{IsAtMost-out, IsAtMost-in}

-- the same on naturals, where the middle run is positive
at_most_through : (u d f v c g w b h : ℕ) →
    0 < g → u * g + c * f ≤ v * f + d * g → v * h + b * g ≤ w * g + c * h → u * h + b * f ≤ w * f + d * h
at_most_through u d f v c g w b h positive first second =
    le_of_mul-le-mul_right {k = g} (omega (arith, mul-le-mul_right h first, mul-le-mul_right f second)) positive

pub IsAtMost-trans : (f g h : Slope) → 0 < g.run → IsAtMost f g → IsAtMost g h → IsAtMost f h
IsAtMost-trans f g h positive first second =
    IsAtMost-in f h
    (at_most_through (up f.rise) (down f.rise) f.run (up g.rise) (down g.rise) g.run (up h.rise) (down h.rise) h.run
    positive (IsAtMost-out f g first) (IsAtMost-out g h second))

pub IsAtMost-refl : (f : Slope) → IsAtMost f f
IsAtMost-refl f = IsAtMost-in f f (omega arith)

pub IsAtMost-total : (f g : Slope) → IsAtMost f g ⊎ IsAtMost g f
IsAtMost-total f g =
    let left = up f.rise * g.run + down g.rise * f.run in
    let right = up g.rise * f.run + down f.rise * g.run in
    elim (cases_lt left right)
    [ inl less ↦ inl (IsAtMost-in f g (omega arith)) | inr more ↦ inr (IsAtMost-in g f (omega arith)) ]
