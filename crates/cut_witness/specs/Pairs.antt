-- A run that some line fits, with its steep or its flat pair, and how a place lies between a pair's two limits.
use Rattle.std.specs.Prelude.{ℕ, ◌+◌, ◌*◌, ◌-◌, ◌<◌, ◌≤◌}
use Rattle.exact_cross.specs.Points.{Points}
use Rattle.exact_cross.specs.Lines.{SomeLineFits}
use Rattle.exact_cross.specs.Steep.{IsSteepOf, IsFlatPair}
use Rattle.cut_witness.specs.declared.pairs.Gap.{Gap}

-- some line fits the run s..e, and (a, b) is its steep pair: of one place, the place twice
pub record HasSteepPair (p : Points) (eps s e a b : ℕ) : Type 0 where
  pub fits : SomeLineFits p eps s e
  pub pair : IsSteepOf p eps s e a b

-- some line fits the run s..e, and (a, b) is its flat pair
pub record HasFlatPair (p : Points) (eps s e a b : ℕ) : Type 0 where
  pub fits : SomeLineFits p eps s e
  pub pair : IsFlatPair p eps s e a b

-- from the lower end of the place j, eps below it, up to the line from eps
-- below a to eps above b; all times x_b - x_a, and both ends raised alike
abbrev pub steep_gap : Points → ℕ → ℕ → ℕ → ℕ → Gap
steep_gap p eps a b j = record {
  lower = p.y j * (p.x b - p.x a) + (p.y b - p.y a + 2 * eps) * p.x a;
  upper = p.y a * (p.x b - p.x a) + (p.y b - p.y a + 2 * eps) * p.x j;
  most = 2 * eps * (p.x b - p.x a);
}

-- from the line from eps above a to eps below b up to the upper end of the place j, eps above it; likewise
abbrev pub flat_gap : Points → ℕ → ℕ → ℕ → ℕ → Gap
flat_gap p eps a b j = record {
  lower = p.y a * (p.x b - p.x a) + (p.y b - p.y a) * p.x j + 2 * eps * p.x a;
  upper = p.y j * (p.x b - p.x a) + (p.y b - p.y a) * p.x a + 2 * eps * p.x j;
  most = 2 * eps * (p.x b - p.x a);
}

-- the line is within eps at j; it doesn't touch the end that it touches at a
-- where j is before a, nor the end that it touches at b where j is between them
pub record Allows (gap : Gap) (a b j : ℕ) : Type 0 where
  pub not_below : gap.lower ≤ gap.upper
  pub not_above : gap.upper ≤ gap.lower + gap.most
  pub before_a : j < a → gap.lower < gap.upper
  pub before_b : a < j → j < b → gap.upper < gap.lower + gap.most
