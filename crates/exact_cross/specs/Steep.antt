-- The steep and the flat pair of a run, and the line of the steep pair (after O'Rourke, CACM 24(9), 1981).
use Rattle.std.specs.Prelude.{◌≡◌, ◌⊎◌, ◌==◌, if◌then◌else◌, ℕ, ◌+◌, ◌*◌, ◌-◌, ◌<◌, ◌≤◌, pos, ◌-ℤ◌}
use Rattle.exact_cross.specs.declared.line.Line.{Line}
use Rattle.exact_cross.specs.Points.{Points}
use Rattle.exact_cross.specs.Slopes.{IsAtMost, steep_slope, flat_slope}

-- two places of the run s..e, the lower one first
pub record IsPair (s e a b : ℕ) : Type 0 where
  pub from_start : s ≤ a
  pub rises : a < b
  pub to_end : b < e

-- the pair (a, b) comes before (c, d): the lesser upper place, and of one upper place the lesser lower one
abbrev pub ComesFirst : ℕ → ℕ → ℕ → ℕ → Type 0
ComesFirst a b c d = (b < d) ⊎ (b ≡ d) × (a ≤ c)

-- the pair of the run with the least steep slope, the first one of equal slopes
pub record IsSteepPair (p : Points) (eps s e a b : ℕ) : Type 0 where
  pub pair : IsPair s e a b
  pub least : (c d : ℕ) → IsPair s e c d → IsAtMost (steep_slope p eps a b) (steep_slope p eps c d)
  pub first : (c d : ℕ) → IsPair s e c d → IsAtMost (steep_slope p eps c d) (steep_slope p eps a b) → ComesFirst a b c d

-- the pair of the run with the greatest flat slope, the first one of equal slopes
pub record IsFlatPair (p : Points) (eps s e a b : ℕ) : Type 0 where
  pub pair : IsPair s e a b
  pub greatest : (c d : ℕ) → IsPair s e c d → IsAtMost (flat_slope p eps c d) (flat_slope p eps a b)
  pub first : (c d : ℕ) → IsPair s e c d → IsAtMost (flat_slope p eps a b) (flat_slope p eps c d) → ComesFirst a b c d

-- the steep pair of a run of two places or more, and the one place twice of a run of one
pub record IsSteepOf (p : Points) (eps s e a b : ℕ) : Type 0 where
  pub alone : e ≡ s + 1 → (a ≡ s) × (b ≡ s)
  pub steep : s + 1 < e → IsSteepPair p eps s e a b

-- the line through the points eps below a and eps above b; for one place the level line through its point
abbrev pub line_of_pair : Points → ℕ → ℕ → ℕ → Line
line_of_pair p eps a b =
    if a == b
    then record { x0 = p.x a; y0 = pos (p.y a); rise = 0; run = 1 }
    else record { x0 = p.x a; y0 = pos (p.y a) -ℤ pos eps; rise = p.y b + 2 * eps - p.y a; run = p.x b - p.x a }
