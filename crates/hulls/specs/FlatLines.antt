-- The flattest line of a run (after O'Rourke, CACM 24(9), 1981).
use Rattle.std.specs.Prelude.{◌≡◌, ℕ, ◌+◌, ◌*◌, ◌^◌, ◌<◌, ◌≤◌, pos, negsuc, ◌+ℤ◌, ◌-ℤ◌, ◌*ℤ◌, ◌≤ℤ◌, ◌<ℤ◌}
use Rattle.exact_cross.specs.declared.line.Line.{Line}
use Rattle.exact_cross.specs.Points.{Points}
use Rattle.exact_cross.specs.Lines.{RationalLine, FitsRun}
use Rattle.hulls.specs.declared.flat.FlatLine.{FlatLine}

-- the line that a flat line with a positive run stands for
abbrev pub rational_flat : (line : FlatLine) → 0 < line.run → RationalLine
rational_flat line positive = record {
  num = line.rise;
  icpt = pos (line.y0 * line.run) -ℤ line.rise *ℤ pos line.x0;
  den = line.run;
  positive = positive;
}

-- a flat line whose numbers are those that a run's can have
pub record IsFlatInRange (line : FlatLine) : Type 0 where
  pub positive : 1 ≤ line.run
  pub not_above : line.y0 < 2 ^ 32 + 2 ^ 20
  pub not_too_flat : negsuc 2097151 ≤ℤ line.rise
  pub not_too_steep : line.rise <ℤ pos (2 ^ 32)

-- of the lines within eps at every place of s..e the one that
-- rises least; for one place the level line through its point
pub record IsFlatLine (p : Points) (eps s e : ℕ) (line : FlatLine) : Type 0 where
  pub in_range : IsFlatInRange line
  pub fits : FitsRun p eps (rational_flat line in_range.positive) s e
  pub alone : e ≡ s + 1 → line ≡ record { x0 = p.x s; y0 = p.y s; rise = pos 0; run = 1 }
  pub flattest : s + 1 < e →
      (other : RationalLine) → FitsRun p eps other s e → (line.rise *ℤ pos other.den) ≤ℤ (other.num *ℤ pos line.run)

-- the mean of both lines doesn't fall
pub record MeanRises (line : Line) (flat : FlatLine) : Type 0 where
  pub rises : pos 0 ≤ℤ (pos (line.rise * flat.run) +ℤ flat.rise *ℤ pos line.run)
