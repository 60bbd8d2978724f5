-- A run that ends in a stretch, and the place that it can't go on to.
use Rattle.std.specs.Prelude.{ℕ, ◌+◌, ◌-◌, ◌<◌}
use Rattle.exact_cross.specs.declared.segment.Witness.{Witness}
use Rattle.exact_cross.specs.Points.{Points}
use Rattle.exact_cross.specs.Lines.{SomeLineFits}
use Rattle.exact_cross.specs.Cuts.{IsCutOf}
use Rattle.hulls.specs.declared.fitting.Hulls.{Hulls}
use Rattle.hulls.specs.Hulls.{StandsFor, AreEven}

-- the hulls stand for the run from s to the place `from`, and
-- this, the place before it and all on to `end` are at even steps
pub record IsInStretch (hulls : Hulls) (p : Points) (eps s from end : ℕ) : Type 0 where
  pub stands : StandsFor hulls p eps s (from + 1)
  pub several : s < from
  pub even : AreEven p (from - 1) end

-- no line fits the run s..e and the place e, as the witness shows
pub record IsRefused (p : Points) (eps s e : ℕ) (w : Witness) : Type 0 where
  pub refused : SomeLineFits p eps s (e + 1) → ⊥
  pub witness : IsCutOf p eps s e w
