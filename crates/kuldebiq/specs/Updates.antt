-- Updates as C writes them.
use Rattle.std.specs.Prelude.{◌≡◌, ◌==◌, ◌⊎◌, ◌<◌, ◌≤◌, ◌++◌, ℕ, List, length}
use Rattle.std.specs.Prelude.{map, take, slice_index_or, All, if◌then◌else◌}
use Rattle.log_levels.specs.declared.update.Update.{Update}
use Rattle.log_levels.specs.declared.update.Update.TheVariants.{Put, Del, Sweep}
use Rattle.log_levels.specs.Accepted.{entries_of}
use Rattle.log_levels.specs.Shapes.{Held, StandsFor, capacity_of}
use Rattle.kuldebiq.specs.declared.updates.UpdateParts.{UpdateParts}
use Rattle.kuldebiq.specs.declared.answer.Answer.{Answer}
use Rattle.kuldebiq.specs.declared.answer.TheConstants.{NO_MEMORY, FULL, NO_SUCH_KIND}
use Rattle.kuldebiq.specs.Answers.{refuses}

-- kind 0 is a put, 1 a deletion and 2 a sweep
abbrev pub IsUpdate : UpdateParts → Type 0
IsUpdate parts = parts.kind ≤ 2

-- the update that the parts are
abbrev pub update_of : UpdateParts → Update
update_of parts = if parts.kind == 0 then Put parts.key parts.value else
    (if parts.kind == 1 then Del parts.key else Sweep parts.key parts.value)

-- at this place, and at none before it, stands something that is no update
pub record IsFirstOther (updates : List UpdateParts) (place : ℕ) : Type 0 where
  pub inside : place < length updates
  pub before : All IsUpdate (take place updates)
  pub other : (d : UpdateParts) → IsUpdate (slice_index_or updates place d) → ⊥

-- these updates don't fit into the map
abbrev pub IsTooMuchFor : Held → List UpdateParts → Type 0
IsTooMuchFor held updates = (before : List Update) →
    StandsFor held before → capacity_of held < length (entries_of (before ++ map update_of updates))

-- why a map doesn't take updates: the first that is none, or else their entries don't fit, or memory isn't found
abbrev pub RefusesUpdates : Held → List UpdateParts → Answer → Type 0
RefusesUpdates held updates answer =
    ((place : ℕ) × (answer ≡ refuses NO_SUCH_KIND place) × IsFirstOther updates place)
    ⊎ (All IsUpdate updates
    × (((answer ≡ refuses FULL held.accepted) × IsTooMuchFor held updates) ⊎ (answer ≡ refuses NO_MEMORY 0)))
