-- The window of a key: the places that a run's line leaves open for it.
-- Source: P. Ferragina and G. Vinciguerra, The PGM-index, PVLDB 13(8), 2020, section 2.
use Rattle.std.specs.Prelude.{◌≡◌, ◌⊎◌, ℕ, ℤ, ◌+◌, ◌-◌, ◌<◌, ◌≤◌, min, pos}
use Rattle.std.specs.Int.{int_min, int_max}
use Rattle.exact_cross.specs.declared.line.Line.{Line}
use Rattle.exact_cross.specs.Points.{Points, IsAscending}
use Rattle.exact_cross.specs.Lines.{FitsRun, rational}
use Rattle.exact_cross.specs.Floors.{IsFloorAt}

-- p is what the line predicts for q: the floor of the line at q, clamped to low ..= high
pub record IsPredicted (line : Line) (low high q p : ℕ) : Type 0 where
  pub floor : ℤ
  pub exact : IsFloorAt line q floor
  pub clamped : pos p ≡ int_max (pos low) (int_min floor (pos high))

-- from ..= to is the window: the places from p - eps - 1 to p + eps + 1, clipped to 0 ..= len, where p is predicted
pub record IsWindow (line : Line) (low high eps q len from to : ℕ) : Type 0 where
  pub p : ℕ
  pub predicted : IsPredicted line low high q p
  pub starts : from ≡ p - (eps + 1)
  pub ends : to ≡ min (p + (eps + 1)) len

-- the line is within eps at each point of the run s..e, whose heights go from low to high
pub record IsLineOf (points : Points) (eps : ℕ) (line : Line) (low high s e : ℕ) : Type 0 where
  pub ascending : IsAscending points
  pub some : s < e
  pub inside : e ≤ points.count
  pub positive : 0 < line.run
  pub fits : FitsRun points eps (rational line positive) s e
  pub lowest : low ≡ points.y s
  pub highest : high ≡ points.y (e - 1)

-- i is the last place of the run s..e whose x is at most q
pub record IsLastAtMost (points : Points) (s e q i : ℕ) : Type 0 where
  pub from_start : s ≤ i
  pub to_end : i < e
  pub at_most : points.x i ≤ q
  pub last : i + 1 < e → q < points.x (i + 1)

-- the run leaves no gap after the place i for q: q is its x, or it
-- is the run's last place, or the next point is at most one higher
abbrev pub IsClose : Points → ℕ → ℕ → ℕ → Type 0
IsClose points e q i = (q ≡ points.x i) ⊎ ((i + 1 ≡ e) ⊎ (points.y (i + 1) ≤ points.y i + 1))

-- the place is the height of the point i or the next place
pub record IsNext (points : Points) (i place : ℕ) : Type 0 where
  pub from : points.y i ≤ place
  pub to : place ≤ points.y i + 1
