-- Lines, and which of them fit a run of places.
use Rattle.std.specs.Prelude.{ℕ, ◌*◌, ◌<◌, ◌≤◌, ℤ, pos, ◌+ℤ◌, ◌-ℤ◌, ◌*ℤ◌, unsigned_abs}
use Rattle.exact_cross.specs.declared.line.Line.{Line}
use Rattle.exact_cross.specs.Points.{Points}

-- the line (num * x + icpt) / den, of whole numbers
pub record RationalLine : Type 0 where
  pub num : ℤ
  pub icpt : ℤ
  pub den : ℕ
  pub positive : 0 < den

-- the line passes the point of this place at a vertical distance of at most eps (cleared of the denominator)
pub record IsWithin (p : Points) (eps : ℕ) (line : RationalLine) (j : ℕ) : Type 0 where
  pub near : unsigned_abs (line.num *ℤ pos (p.x j) +ℤ line.icpt -ℤ pos (line.den * p.y j)) ≤ line.den * eps

-- the line is within eps at every place of s..e
abbrev pub FitsRun : Points → ℕ → RationalLine → ℕ → ℕ → Type 0
FitsRun p eps line s e = (j : ℕ) → s ≤ j → j < e → IsWithin p eps line j

-- some line is within eps at every place of s..e
abbrev pub SomeLineFits : Points → ℕ → ℕ → ℕ → Type 0
SomeLineFits p eps s e = (line : RationalLine) × FitsRun p eps line s e

-- the line that a stored line with a positive run stands for
abbrev pub rational : (line : Line) → 0 < line.run → RationalLine
rational line positive = record {
  num = pos line.rise;
  icpt = line.y0 *ℤ pos line.run -ℤ pos (line.rise * line.x0);
  den = line.run;
  positive = positive;
}
