-- Which pairs can be loaded into a map, how others are refused, and what a map holds that was made of pairs.
use Rattle.std.specs.Prelude.{◌≡◌, ◌⊎◌, ℕ, ◌<◌, ◌≤◌, List, length, Option}
use Rattle.std.specs.Option.{MatchOption}
use Rattle.log_levels.specs.declared.update.Update.{Update}
use Rattle.log_levels.specs.Maps.{map_after, AreRising, IsFirstStall}
use Rattle.log_levels.specs.Shapes.{Held, IsMapOf, StandsFor, capacity_with}
use Rattle.options.specs.declared.map.TheConstants.{MAX_LEVELS}
use Rattle.kuldebiq.specs.declared.answer.Answer.{Answer}
use Rattle.kuldebiq.specs.declared.answer.TheConstants.{NO_MEMORY, UNSORTED, LEVELS_OUT_OF_RANGE, FULL}
use Rattle.kuldebiq.specs.Answers.{refuses}

-- a map has as many levels
pub record IsLevelCount (levels : ℕ) : Type 0 where
  pub some : 1 ≤ levels
  pub few : levels ≤ MAX_LEVELS

-- pairs that a map with so many levels takes: their keys rise, and they aren't too many
pub record CanBeLoaded (levels : ℕ) (pairs : List (ℕ × ℕ)) : Type 0 where
  pub level_count : IsLevelCount levels
  pub rising : AreRising pairs
  pub fit : length pairs ≤ capacity_with levels

-- no map has so many levels
abbrev pub RefusesLevels : ℕ → Answer → Type 0
RefusesLevels levels answer = (answer ≡ refuses LEVELS_OUT_OF_RANGE levels) × ((levels ≡ 0) ⊎ (MAX_LEVELS < levels))

-- the first place whose key isn't above the one before it, or else the pairs are too many
abbrev pub RefusesPairs : ℕ → List (ℕ × ℕ) → Answer → Type 0
RefusesPairs levels pairs answer =
    ((place : ℕ) × (answer ≡ refuses UNSORTED place) × IsFirstStall pairs place)
    ⊎ (AreRising pairs × ((answer ≡ refuses FULL (capacity_with levels)) × (capacity_with levels < length pairs)))

-- a number of levels that no map has, or else pairs that are refused
abbrev pub IsLoadRefusal : ℕ → List (ℕ × ℕ) → Answer → Type 0
IsLoadRefusal levels pairs answer =
    RefusesLevels levels answer ⊎ (IsLevelCount levels × RefusesPairs levels pairs answer)

-- the handle holds the map of these pairs
abbrev pub HoldsMapOf : ℕ → List (ℕ × ℕ) → Option Held → Type 0
HoldsMapOf levels pairs held = MatchOption held ⊥ (IsMapOf levels pairs)

-- the handle holds the map of the pairs that the one has that it held
abbrev pub HasCompacted : ℕ → Option Held → Option Held → Type 0
HasCompacted levels was now = MatchOption
    was ⊥ (λ map. (updates : List Update) → StandsFor map updates → HoldsMapOf levels (map_after updates) now)

-- why a map isn't compacted: no map has so many levels, or else it has more pairs than fit, or memory isn't found
abbrev pub RefusesCompact : ℕ → Held → Answer → Type 0
RefusesCompact levels map answer =
    RefusesLevels levels answer
    ⊎ (IsLevelCount levels
    × (((answer ≡ refuses FULL (capacity_with levels))
    × ((updates : List Update) → StandsFor map updates → capacity_with levels < length (map_after updates)))
    ⊎ (answer ≡ refuses NO_MEMORY 0)))
