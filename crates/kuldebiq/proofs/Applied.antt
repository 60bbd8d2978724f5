-- Why a map doesn't take updates that are such.
use Rattle.std.proofs.Common.{◌≡◌, ◌⊎◌, inl, inr, ◌∙◌, ◌<◌, ◌++◌, ℕ, List, length, map, ap, subst}
use Rattle.log_levels.specs.declared.update.Update.{Update}
use Rattle.log_levels.specs.declared.fault.MapFault.{MapFault}
use Rattle.log_levels.specs.declared.fault.MapFault.TheVariants.{Full, NoMemory}
use Rattle.log_levels.specs.Accepted.{entries_of}
use Rattle.log_levels.specs.Shapes.{Held, StandsFor, capacity_of}
use Rattle.kuldebiq.specs.declared.updates.UpdateParts.{UpdateParts}
use Rattle.kuldebiq.specs.declared.answer.Answer.{Answer}
use Rattle.kuldebiq.specs.Answers.{refuses}
use Rattle.kuldebiq.specs.Changes.{fault_as}
use Rattle.kuldebiq.specs.Updates.{update_of, IsTooMuchFor}

-- by the fault
pub refused_by : (held : Held) (parts : List UpdateParts) (updates : List Update) (fault : MapFault) (answer : Answer) →
    updates ≡ map update_of parts → answer ≡ fault_as fault
    → ((accepted : ℕ) → fault ≡ Full accepted → (accepted ≡ held.accepted)
    × ((before : List Update) → StandsFor held before → capacity_of held < length (entries_of (before ++ updates))))
    → ((answer ≡ refuses 11 held.accepted) × IsTooMuchFor held parts) ⊎ (answer ≡ refuses 1 0)
refused_by held parts updates (Full accepted) answer same is full =
    let only = full accepted (λ i. Full accepted) in
    inl (
      is ∙ ap (refuses 11) only.0,
      λ before stands. subst
          (λ (list : List Update). capacity_of held < length (entries_of (before ++ list))) same (only.1 before stands),
    )
refused_by held parts updates NoMemory answer same is full = inr is
