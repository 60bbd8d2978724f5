-- Which places a search keeps, in whatever stretches the codes come. No public clause cites it.
use Rattle.std.specs.Prelude.{ℕ, ◌+◌, ◌*◌, ◌<◌, ◌≤◌, List, ◌++◌, length, All, slice_index_or}
use Rattle.std.specs.List.Sorted.{IsPermutation}
use Rattle.neighbours.specs.declared.neighbour.Neighbour.{Neighbour}
use Rattle.neighbours.specs.Neighbours.{neighbour_at, rank_of}

-- these are chosen of all, and in order the first: no other stands before one of them
pub record AreChosen (InOrder : Type 0) (all chosen : List Neighbour) : Type 0 where
  pub others : List Neighbour
  pub same : IsPermutation all (chosen ++ others)
  pub worst : ℕ
  pub below : All (λ one. rank_of one ≤ worst) chosen
  pub above : InOrder → All (λ one. worst ≤ rank_of one) others

-- of the places that were kept and of some more, these are kept now, and none is behind all that were
pub record AreStillKept (InOrder : Type 0) (old more new : List Neighbour) : Type 0 where
  pub chosen : AreChosen InOrder (old ++ more) new
  pub falls : (bound : ℕ) → All (λ one. rank_of one ≤ bound) old → chosen.worst ≤ bound

-- what holds without a condition
abbrev pub Always : Type 0
Always = 0 ≤ 0

-- from place `low` on, none stands before one of the two below it in the heap
abbrev pub IsHeap : ℕ → List Neighbour → Type 0
IsHeap low heap = (p k : ℕ) → low ≤ p → p * 2 + 1 ≤ k → k ≤ p * 2 + 2 → k < length heap →
    rank_of (slice_index_or heap k (neighbour_at 0 0)) ≤ rank_of (slice_index_or heap p (neighbour_at 0 0))
