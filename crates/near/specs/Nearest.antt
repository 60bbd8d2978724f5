-- The nearest points of a centre, and in how many boxes they are looked for.
use Rattle.std.specs.Prelude.{◌≡◌, ℕ, ◌+◌, ◌<◌, ◌≤◌, List, length, map, take, slice_index_or}
use Rattle.std.specs.List.Sorted.{IsNonDecreasingBy, IsPermutation}
use Rattle.near.specs.Around.{distance, points_within}

-- of each code how far its point is from the centre, and the code
abbrev pub pairs_of : ℕ → List ℕ → List ℕ → List (ℕ × ℕ)
pairs_of d centre codes = map (λ z. (distance d centre z, z)) codes

-- by distance, and those that are equally far by code
pub record AreNearestFirst (pairs : List (ℕ × ℕ)) : Type 0 where
  pub distances : IsNonDecreasingBy (λ pair. pair.0) pairs
  pub codes : (i j : ℕ) (e : ℕ × ℕ) → i ≤ j → j < length pairs
      → (slice_index_or pairs i e).0 ≡ (slice_index_or pairs j e).0 →
      (slice_index_or pairs i e).1 ≤ (slice_index_or pairs j e).1

-- the pairs of all codes, nearest first, each as often as it is there
pub record AreSortedPairs (d : ℕ) (centre codes : List ℕ) (pairs : List (ℕ × ℕ)) : Type 0 where
  pub same : IsPermutation (pairs_of d centre codes) pairs
  pub order : AreNearestFirst pairs

-- the k nearest: the first k of all, or all where there are fewer
abbrev pub AreNearest : ℕ → List ℕ → List ℕ → ℕ → List (ℕ × ℕ) → Type 0
AreNearest d centre codes k points = (all : List (ℕ × ℕ)) × AreSortedPairs d centre codes all × (points ≡ take k all)

-- i is the least number whose box, of what is within 2 ^ i - 1 of the centre, has at least so many points
pub record IsLeastBox (d : ℕ) (centre codes : List ℕ) (found i : ℕ) : Type 0 where
  pub enough : found ≤ points_within d centre codes i
  pub least : (j : ℕ) → j < i → points_within d centre codes j < found

-- in how many boxes so many points are looked for: those up to
-- the first that has them, and in none where there are none
pub record AreBoxes (d : ℕ) (centre codes : List ℕ) (found boxes : ℕ) : Type 0 where
  pub none : found ≡ 0 → boxes ≡ 0
  pub some : 0 < found → (i : ℕ) × IsLeastBox d centre codes found i × (boxes ≡ 1 + i)

-- an answer: the nearest points, each by its distance and its code, and the number of boxes
pub record NearAnswer : Type 0 where
  pub points : List (ℕ × ℕ)
  pub boxes : ℕ

-- the answer for a centre and k
pub record IsNear (d : ℕ) (centre codes : List ℕ) (k : ℕ) (answer : NearAnswer) : Type 0 where
  pub points : AreNearest d centre codes k answer.points
  pub boxes : AreBoxes d centre codes (length answer.points) answer.boxes
