-- Which keys and error bounds have an index, and how others are refused.
use Rattle.std.specs.Prelude.{◌≡◌, ◌⊎◌, ℕ, ◌^◌, ◌<◌, ◌≤◌, List, length, max, Option}
use Rattle.std.specs.Option.{MatchOption}
use Rattle.std.specs.List.Sorted.{IsNonDecreasing}
use Rattle.key_points.specs.Falls.{IsFirstFall}
use Rattle.key_points.specs.declared.fault.KeysFault.{KeysFault}
use Rattle.key_points.specs.declared.fault.KeysFault.TheVariants.{TooMany, Falls, NoMemory}
use Rattle.levels.specs.Indexes.{PgmIndex, IsIndexOf}
use Rattle.exact_cross.specs.declared.TheConstants.{MAX_EPSILON}
use Rattle.kuldebiq.specs.declared.answer.Answer.{Answer}
use Rattle.kuldebiq.specs.declared.answer.TheConstants.{NO_MEMORY, UNSORTED, TOO_MANY_KEYS, EPSILON_TOO_GREAT}
use Rattle.kuldebiq.specs.Answers.{refuses}

-- keys and error bounds that have an index
pub record CanBeIndexed (keys : List ℕ) (eps eps_rec : ℕ) : Type 0 where
  pub never_falls : IsNonDecreasing keys
  pub few : length keys < 2 ^ 32
  pub bounded : eps ≤ MAX_EPSILON
  pub bounded_rec : eps_rec ≤ MAX_EPSILON

-- keys that fall, with the first place whose key is below the key before it
abbrev pub RefusesOrder : List ℕ → Answer → Type 0
RefusesOrder keys answer = (place : ℕ) × (answer ≡ refuses UNSORTED place) × IsFirstFall keys place

-- too many keys, with their number, or else keys that fall
abbrev pub RefusesKeys : List ℕ → Answer → Type 0
RefusesKeys keys answer = ((answer ≡ refuses TOO_MANY_KEYS (length keys)) × (2 ^ 32 ≤ length keys))
    ⊎ ((length keys < 2 ^ 32) × RefusesOrder keys answer)

-- an error bound that is too great, with the greater of the two, or else keys that are refused
abbrev pub IsRefusal : List ℕ → ℕ → ℕ → Answer → Type 0
IsRefusal keys eps eps_rec answer =
    ((answer ≡ refuses EPSILON_TOO_GREAT (max eps eps_rec)) × (MAX_EPSILON < max eps eps_rec))
    ⊎ ((max eps eps_rec ≤ MAX_EPSILON) × RefusesKeys keys answer)

-- a fault of keys as an answer
abbrev pub refused_as : KeysFault → Answer
refused_as (TooMany count) = refuses TOO_MANY_KEYS count
refused_as (Falls place) = refuses UNSORTED place
refused_as NoMemory = refuses NO_MEMORY 0

-- the handle holds the index of keys and error bounds
abbrev pub HoldsIndexOf : List ℕ → ℕ → ℕ → Option PgmIndex → Type 0
HoldsIndexOf keys eps eps_rec held = MatchOption held ⊥ (IsIndexOf keys eps eps_rec)
