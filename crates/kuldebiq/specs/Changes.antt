-- What a call does to the map that a handle holds.
use Rattle.std.specs.Prelude.{◌≡◌, ◌⊎◌, ℕ, ◌+◌, ◌<◌, ◌≤◌, List, [], ◌∷◌, ◌++◌, length, Option, Some, None, IsSome}
use Rattle.std.specs.Option.{MatchOption}
use Rattle.log_levels.specs.declared.update.Update.{Update}
use Rattle.log_levels.specs.declared.update.Update.TheVariants.{Del}
use Rattle.log_levels.specs.Maps.{map_after}
use Rattle.log_levels.specs.Shapes.{Held, StandsFor, capacity_of}
use Rattle.log_levels.specs.declared.fault.MapFault.{MapFault}
use Rattle.log_levels.specs.declared.fault.MapFault.TheVariants.{Full, NoMemory}
use Rattle.kuldebiq.specs.declared.answer.Answer.{Answer}
use Rattle.kuldebiq.specs.declared.answer.TheConstants.{NO_MEMORY, ABSENT, FULL}
use Rattle.kuldebiq.specs.declared.map_calls.Pair.{Pair}
use Rattle.kuldebiq.specs.Answers.{gives, refuses, IsDone}

-- the handle holds an empty map with so many levels
abbrev pub HoldsEmpty : ℕ → Option Held → Type 0
HoldsEmpty levels now = MatchOption now ⊥ (λ map. StandsFor map [] × (length map.levels ≡ levels))

-- for each list of updates that the map stood for, it stands for that list with these behind it
abbrev pub Adds : List Update → Held → Held → Type 0
Adds updates was now = (before : List Update) → StandsFor was before → StandsFor now (before ++ updates)

-- the map that the handle holds has the updates behind those of the one that it held
abbrev pub HasAdded : List Update → Option Held → Option Held → Type 0
HasAdded updates was now = MatchOption was ⊥ (λ map. MatchOption now ⊥ (Adds updates map))

-- 1 where there is a value, and else 0
abbrev pub one_if_some : Option ℕ → ℕ
one_if_some None = 0
one_if_some (Some value) = 1

-- why an update was refused, as an answer
abbrev pub fault_as : MapFault → Answer
fault_as (Full accepted) = refuses FULL accepted
fault_as NoMemory = refuses NO_MEMORY 0

-- the pair that a map has there is taken out and written, in an entry more; or there is
-- none, or else the map can't accept an entry more, or memory isn't found
pub record TakesOut (there : List (ℕ × ℕ) → Option (ℕ × ℕ)) (was : Held) (now : Option Held)
    (pair : Pair) (answer : Answer) : Type 0 where
  pub done : IsDone answer → HasAdded (Del pair.key ∷ []) (Some was) now
  pub written : (updates : List Update) → StandsFor was updates →
      IsDone answer → (answer ≡ gives 0) × (there (map_after updates) ≡ Some (pair.key, pair.value))
  pub absent : (updates : List Update) → StandsFor was updates →
      there (map_after updates) ≡ None → answer ≡ refuses ABSENT 0
  pub full : (updates : List Update) → StandsFor was updates → IsSome (there (map_after updates)) →
      capacity_of was < was.accepted + 1 → answer ≡ refuses FULL was.accepted
  pub room : (updates : List Update) → StandsFor was updates → IsSome (there (map_after updates)) →
      was.accepted + 1 ≤ capacity_of was → IsDone answer ⊎ (answer ≡ refuses NO_MEMORY 0)
