-- How far a walk has come.
use Rattle.std.specs.Prelude.{ℕ, ◌<◌, ◌≤◌, List, length}
use Rattle.zorder.specs.declared.regions.Region.{Region}
use Rattle.boxes.specs.Places.{IsCountOf}
use Rattle.boxes.specs.BoxAnswers.{IsLookedAt}

-- of the places below `at` so many are looked at, and unless it is the end `at` is one
pub record HasWalked (region : Region) (codes : List ℕ) (at looked : ℕ) : Type 0 where
  pub within : at ≤ length codes
  pub few : looked ≤ at
  pub counted : IsCountOf (IsLookedAt region codes) at looked
  pub due : at < length codes → IsLookedAt region codes at
