-- The rule of the copies that readers take, and what its steps tell. No public clause cites it.
use Rattle.std.specs.Prelude.{◌≡◌, ℕ, Bool, false, List, [], ◌∷◌, ◌++◌, Option, Some}
use mathlib.Core.Option.{some}
use mathlib.Core.List.{IsPrefix}
use lib.ListN.{get_elem?}
use Rattle.published.specs.Histories.{Front}

-- the version is of the history of which this was seen, and begins with it
pub record GoesOn (seen version : Front) : Type 0 where
  pub own : seen.origin ≡ version.origin
  pub begins : IsPrefix seen.batches version.batches

-- the version goes on from all that anyone has seen
abbrev pub BeginsWithSeen : Front → List (Option Front) → Type 0
BeginsWithSeen version views = (seat : ℕ) (seen : Front) → get_elem? views seat ≡ some (Some seen) → GoesOn seen version

-- a step at which the version y is shown: it goes on from what was seen, and is what has been seen then
abbrev pub Sees : Option Front → Front → Front → Option Front → Type 0
Sees v x y w = (w ≡ Some y) × ((seen : Front) → v ≡ Some seen → GoesOn seen y)

-- who has this view knows this much: what was seen, or a longer prefix of the same history that was learned since
pub record Knows (view : Option Front) (known : Front) (learned : Bool) : Type 0 where
  pub seen : Front
  pub is : view ≡ Some seen
  pub own : seen.origin ≡ known.origin
  pub whole : learned ≡ false → seen ≡ known

-- what a new reader is told is what it has seen
abbrev pub told : Option Front → Option Front → Option Front
told v w = w

-- the last of the versions that wait to be shown
abbrev pub IsLastOf : List Front → Front → Type 0
IsLastOf queue last = (before : List Front) × (queue ≡ before ++ last ∷ [])
