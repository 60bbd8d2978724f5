-- What a check of a saved index says: it is the one index of the points, or in which level it first isn't.
use Rattle.std.specs.Prelude.{◌≡◌, ◌≢◌, ℕ, ◌<◌, List, map, slice_get}
use Rattle.exact_cross.specs.declared.segment.Segment.{Segment}
use Rattle.exact_cross.specs.IndexLevels.{IsIndexOver}
use Rattle.index_file.specs.declared.saved.SavedRun.{SavedRun}
use Rattle.index_file.specs.declared.fault.CheckFault.{CheckFault}
use Rattle.index_file.specs.declared.fault.CheckFault.TheVariants.{Wrong, NoMemory}
use Rattle.index_file.specs.Spelling.{SavedIndex}
use Rattle.index_file.specs.Spelled.{saved_run}

-- the runs of each level, as they are saved
abbrev pub saved_levels : List (List Segment) → List (List SavedRun)
saved_levels levels = map (λ segments. map saved_run segments) levels

-- the saved index is the one index of the points for its own error bounds
pub record IsSavedIndexOf (xs ys : List ℕ) (saved : SavedIndex) : Type 0 where
  pub levels : List (List Segment)
  pub index : IsIndexOver xs ys saved.eps saved.eps_rec levels
  pub same : saved.levels ≡ saved_levels levels

-- the two lists have the same levels below i, and not the same level i; past its end a list has none
pub record IsFirstDifference (one two : List (List SavedRun)) (i : ℕ) : Type 0 where
  pub same : (k : ℕ) → k < i → slice_get one k ≡ slice_get two k
  pub differs : slice_get one i ≢ slice_get two i

-- level i is the least one that isn't that of the index of the points for the saved error bounds
abbrev pub IsWrongAt : List ℕ → List ℕ → SavedIndex → ℕ → Type 0
IsWrongAt xs ys saved i =
    (levels : List (List Segment)) →
    IsIndexOver xs ys saved.eps saved.eps_rec levels → IsFirstDifference saved.levels (saved_levels levels) i

-- why a saved index wasn't found right
abbrev pub HasCheckCause : List ℕ → List ℕ → SavedIndex → CheckFault → Type 0
HasCheckCause xs ys saved (Wrong level) = IsWrongAt xs ys saved level
HasCheckCause xs ys saved NoMemory = Unit {0}
