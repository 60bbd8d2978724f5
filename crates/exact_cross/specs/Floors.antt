-- The height of a line at a key, rounded down.
use Rattle.std.specs.Prelude.{ℕ, ℤ, pos, ◌+ℤ◌, ◌-ℤ◌, ◌*ℤ◌, ◌≤ℤ◌, ◌<ℤ◌}
use Rattle.exact_cross.specs.declared.line.Line.{Line}

-- the height of the line at q, times its run
abbrev pub height_at : Line → ℕ → ℤ
height_at line q = line.y0 *ℤ pos line.run +ℤ pos line.rise *ℤ (pos q -ℤ pos line.x0)

-- f is the greatest whole number not above the line at q (cleared of the denominator)
pub record IsFloorAt (line : Line) (q : ℕ) (f : ℤ) : Type 0 where
  pub not_above : (f *ℤ pos line.run) ≤ℤ height_at line q
  pub greatest : height_at line q <ℤ ((f +ℤ pos 1) *ℤ pos line.run)
