-- Which keys and error bounds have hints, how others are refused, and where hints lead.
use Rattle.std.specs.Prelude.{◌≡◌, ◌⊎◌, ℕ, ◌+◌, ◌^◌, ◌<◌, ◌≤◌, List, length, Option}
use Rattle.std.specs.Option.{MatchOption}
use Rattle.std.specs.List.Sorted.{IsNonDecreasing}
use Rattle.hints.specs.Lookups.{LeadsWithin}
use Rattle.hints.specs.Leads.{HaveLeastLines, AreInFormat, AreFew}
use Rattle.exact_cross.specs.declared.TheConstants.{MAX_EPSILON}
use Rattle.kuldebiq.specs.declared.answer.Answer.{Answer}
use Rattle.kuldebiq.specs.declared.answer.TheConstants.{EPSILON_TOO_GREAT}
use Rattle.kuldebiq.specs.Answers.{refuses}
use Rattle.kuldebiq.specs.Building.{RefusesKeys}

-- keys and an error bound that have hints
pub record CanHaveHints (keys : List ℕ) (eps : ℕ) : Type 0 where
  pub never_falls : IsNonDecreasing keys
  pub few : length keys < 2 ^ 32
  pub bounded : eps ≤ MAX_EPSILON

-- an error bound that is too great, or else keys that are refused
abbrev pub IsHintsRefusal : List ℕ → ℕ → Answer → Type 0
IsHintsRefusal keys eps answer =
    ((answer ≡ refuses EPSILON_TOO_GREAT eps) × (MAX_EPSILON < eps)) ⊎ ((eps ≤ MAX_EPSILON) × RefusesKeys keys answer)

-- the hints lead to within ε + 2 in the keys, have as many lines as the least cover of the
-- keys' points within ε has runs, and are in the format, at most 6 and five for each line
pub record AreHintsOf (keys : List ℕ) (eps : ℕ) (hints : List ℕ) : Type 0 where
  pub lead : LeadsWithin hints keys (eps + 2)
  pub least : HaveLeastLines keys eps hints
  pub format : AreInFormat eps hints
  pub few : AreFew hints

-- the handle holds hints of keys and an error bound
abbrev pub HoldsHintsOf : List ℕ → ℕ → Option (List ℕ) → Type 0
HoldsHintsOf keys eps held = MatchOption held ⊥ (AreHintsOf keys eps)
