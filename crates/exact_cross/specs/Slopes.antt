-- Slopes of two points, and their order.
use Rattle.std.specs.Prelude.{ℕ, ◌+◌, ◌*◌, ◌-◌, pos, ◌-ℤ◌, ◌*ℤ◌, ◌≤ℤ◌}
use Rattle.std.specs.Ordering.{int_cmp}
use Rattle.std.specs.declared.cmp.Ordering.{Ordering}
use Rattle.exact_cross.specs.declared.slope.Slope.{Slope}
use Rattle.exact_cross.specs.Points.{Points}

-- the order of two fractions with positive denominators, by cross products
abbrev pub slope_cmp : Slope → Slope → Ordering
slope_cmp f g = int_cmp (f.rise *ℤ pos g.run) (g.rise *ℤ pos f.run)

-- the first fraction is at most the second
pub record IsAtMost (f g : Slope) : Type 0 where
  pub at_most : (f.rise *ℤ pos g.run) ≤ℤ (g.rise *ℤ pos f.run)

-- from eps below the point a to eps above the point b: no line within eps of both rises faster
abbrev pub steep_slope : Points → ℕ → ℕ → ℕ → Slope
steep_slope p eps a b = record { rise = pos (p.y b + 2 * eps) -ℤ pos (p.y a); run = p.x b - p.x a }

-- from eps above the point a to eps below the point b: no line within eps of both rises slower
abbrev pub flat_slope : Points → ℕ → ℕ → ℕ → Slope
flat_slope p eps a b = record { rise = pos (p.y b) -ℤ pos (p.y a + 2 * eps); run = p.x b - p.x a }
