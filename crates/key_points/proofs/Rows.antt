-- Lists by their first element: numbers that are in a list, that
-- never fall or that rise from a bound on, and the same by places.
use Rattle.std.proofs.Common.{◌≡◌, ◌⊎◌, inl, inr, ℕ, zero, suc, ◌+◌, ◌<◌, ◌≤◌, List, []}
use Rattle.std.proofs.Common.{◌∷◌, ◌++◌, length, get_or, slice_index, sym, arith, add-one}
use Rattle.std.specs.List.Sorted.{IsNonDecreasing, IsStrictlyIncreasing}

-- the number stands in the list
abbrev pub IsIn : ℕ → List ℕ → Type 0
IsIn x [] = ⊥
IsIn x (y ∷ ys) = (x ≡ y) ⊎ IsIn x ys

-- the numbers never fall, and are `low` or more
abbrev pub NeverFallsFrom : ℕ → List ℕ → Type 0
NeverFallsFrom low [] = Unit {0}
NeverFallsFrom low (x ∷ xs) = (low ≤ x) × NeverFallsFrom x xs

-- the numbers rise, and are `low` or more
abbrev pub RisesFrom : ℕ → List ℕ → Type 0
RisesFrom low [] = Unit {0}
RisesFrom low (x ∷ xs) = (low ≤ x) × RisesFrom (x + 1) xs

pub NeverFallsFrom-in : (low : ℕ) (xs : List ℕ) →
    IsNonDecreasing xs → (0 < length xs → low ≤ slice_index xs 0) → NeverFallsFrom low xs
NeverFallsFrom-in low [] order first = tt
NeverFallsFrom-in low (x ∷ xs) order first = (
  first (omega arith),
  NeverFallsFrom-in x xs (λ i j d below inside. order (suc i) (suc j) d (omega arith) (omega arith))
      (λ some. order 0 1 0 (omega arith) (omega arith)),
)

pub RisesFrom-first : (low : ℕ) (xs : List ℕ) → RisesFrom low xs → 0 < length xs → low ≤ slice_index xs 0
RisesFrom-first low [] rise some = absurd (omega arith)
RisesFrom-first low (x ∷ xs) rise some = rise.0

rises_at : (low : ℕ) (xs : List ℕ) →
    RisesFrom low xs → (k : ℕ) → suc k < length xs → get_or xs k 0 < get_or xs (suc k) 0
rises_at low [] rise k inside = absurd (omega arith)
rises_at low (x ∷ xs) rise zero inside = let first = RisesFrom-first (x + 1) xs rise.1 (omega arith) in omega arith
rises_at low (x ∷ xs) rise (suc k) inside = rises_at (x + 1) xs rise.1 k (omega arith)

pub IsStrictlyIncreasing-from : (low : ℕ) (xs : List ℕ) → RisesFrom low xs → IsStrictlyIncreasing xs
IsStrictlyIncreasing-from low xs rise = λ k inside. rw add-one (rises_at low xs rise k (omega arith))

pub IsIn-place : (x : ℕ) (xs : List ℕ) → IsIn x xs → (j : ℕ) × (j < length xs) × (slice_index xs j ≡ x)
IsIn-place x [] inside = absurd inside
IsIn-place x (y ∷ ys) (inl same) = (0, omega arith, sym same)
IsIn-place x (y ∷ ys) (inr later) = let found = IsIn-place x ys later in (suc found.0, omega (arith, found.1), found.2)

pub IsIn-left : (x : ℕ) (xs ys : List ℕ) → IsIn x xs → IsIn x (xs ++ ys)
IsIn-left x [] ys inside = absurd inside
IsIn-left x (y ∷ xs) ys (inl same) = inl same
IsIn-left x (y ∷ xs) ys (inr later) = inr (IsIn-left x xs ys later)

pub IsIn-right : (x : ℕ) (xs ys : List ℕ) → IsIn x ys → IsIn x (xs ++ ys)
IsIn-right x [] ys inside = inside
IsIn-right x (y ∷ xs) ys inside = inr (IsIn-right x xs ys inside)

pub IsIn-append : (x : ℕ) (xs ys : List ℕ) → IsIn x (xs ++ ys) → IsIn x xs ⊎ IsIn x ys
IsIn-append x [] ys inside = inr inside
IsIn-append x (y ∷ xs) ys (inl same) = inl (inl same)
IsIn-append x (y ∷ xs) ys (inr later) =
    elim (IsIn-append x xs ys later) [ inl left ↦ inl (inr left) | inr right ↦ inr right ]
