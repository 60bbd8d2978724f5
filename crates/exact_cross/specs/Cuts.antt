-- Why a run ends: the witness that is kept with its segment.
use Rattle.std.specs.Prelude.{◌≡◌, ℕ, ◌<◌, None, Some}
use Rattle.exact_cross.specs.declared.segment.Side.{Side}
use Rattle.exact_cross.specs.declared.segment.Side.TheVariants.{Over, Under}
use Rattle.exact_cross.specs.declared.segment.Witness.{Witness}
use Rattle.exact_cross.specs.declared.segment.Segment.{Segment}
use Rattle.exact_cross.specs.Points.{Points}
use Rattle.exact_cross.specs.Steep.{IsSteepPair, IsFlatPair}
use Rattle.exact_cross.specs.Witnesses.{IsOver, IsUnder}

-- of the run s..e the steep pair, where the place e lies over it, and
-- else the flat pair, where e lies under it; the other pair tells nothing
abbrev pub CutsAt : Points → ℕ → ℕ → ℕ → Side → ℕ → ℕ → Type 0
CutsAt p eps s e Over a b =
    IsSteepPair p eps s e a b × IsOver p eps a b e × ((c d : ℕ) → IsFlatPair p eps s e c d → IsUnder p eps c d e → ⊥)
CutsAt p eps s e Under a b =
    IsFlatPair p eps s e a b × IsUnder p eps a b e × ((c d : ℕ) → IsSteepPair p eps s e c d → IsOver p eps c d e → ⊥)

-- the witness is that of the run s..e and the place after it
pub record IsCutOf (p : Points) (eps s e : ℕ) (w : Witness) : Type 0 where
  pub place : w.r ≡ e
  pub side : CutsAt p eps s e w.side w.p w.q

-- the last run has no cut, and each other one has its own
pub record HasItsCut (p : Points) (eps to : ℕ) (segment : Segment) (e : ℕ) : Type 0 where
  pub last : e ≡ to → segment.cut ≡ None
  pub other : e < to → (w : Witness) × (segment.cut ≡ Some w) × IsCutOf p eps segment.start e w
