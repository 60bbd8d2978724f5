-- Three places that no line fits.
use Rattle.std.specs.Prelude.{ℕ, ◌+◌, ◌-◌, ◌<◌, pos, ◌+ℤ◌, ◌-ℤ◌, ◌*ℤ◌, ◌<ℤ◌}
use Rattle.exact_cross.specs.declared.segment.Side.{Side}
use Rattle.exact_cross.specs.declared.segment.Side.TheVariants.{Over, Under}
use Rattle.exact_cross.specs.declared.segment.Witness.{Witness}
use Rattle.exact_cross.specs.Points.{Points}

-- the chord from eps below a to eps below r passes b more than eps above it (cleared of the denominator x_r - x_a)
pub record IsOver (p : Points) (eps a b r : ℕ) : Type 0 where
  pub over : (pos (p.y b + eps) *ℤ pos (p.x r - p.x a))
      <ℤ ((pos (p.y a) -ℤ pos eps) *ℤ pos (p.x r - p.x b) +ℤ (pos (p.y r) -ℤ pos eps) *ℤ pos (p.x b - p.x a))

-- the chord from eps above a to eps above r passes b more than eps below it
pub record IsUnder (p : Points) (eps a b r : ℕ) : Type 0 where
  pub under : (pos (p.y a + eps) *ℤ pos (p.x r - p.x b) +ℤ pos (p.y r + eps) *ℤ pos (p.x b - p.x a))
      <ℤ ((pos (p.y b) -ℤ pos eps) *ℤ pos (p.x r - p.x a))

-- the inequality of the side
abbrev pub IsBeyond : Points → ℕ → Side → ℕ → ℕ → ℕ → Type 0
IsBeyond p eps Over a b r = IsOver p eps a b r
IsBeyond p eps Under a b r = IsUnder p eps a b r

-- three places in order, whose side's inequality holds
pub record IsWitness (p : Points) (eps : ℕ) (w : Witness) : Type 0 where
  pub first : w.p < w.q
  pub second : w.q < w.r
  pub last : w.r < p.count
  pub beyond : IsBeyond p eps w.side w.p w.q w.r
