-- How near the hints lead, what a lookup reads, and the places of many questions.
use Rattle.std.specs.Prelude.{◌≡◌, ◌⊎◌, ℕ, ◌+◌, ◌*◌, ◌^◌, ◌<◌, ◌≤◌, List, length, slice_index}
use Rattle.std.specs.Int.{abs_diff}
use Rattle.std.specs.List.Sorted.{IsNonDecreasing}
use Rattle.window_search.specs.Brackets.{IsBracket}
use Rattle.window_search.specs.Searches.{lb}
use Rattle.hints.specs.Told.{IsTold}

-- the hints lead to within `off` in the keys: what they tell for
-- a question is at most so far from how many keys are below it
abbrev pub LeadsWithin : List ℕ → List ℕ → ℕ → Type 0
LeadsWithin hints keys off =
    (q place : ℕ) → q < 2 ^ 64 → IsTold hints (length keys) q place → abs_diff place (lb keys q) ≤ off

-- the place brackets q, and is its lower bound where the keys never fall
pub record IsPosition (keys : List ℕ) (q place : ℕ) : Type 0 where
  pub bracket : IsBracket keys q place
  pub found : IsNonDecreasing keys → place ≡ lb keys q

-- the places of the first `count` questions
abbrev pub ArePositions : List ℕ → List ℕ → List ℕ → ℕ → Type 0
ArePositions keys questions places count =
    (k : ℕ) → k < count → IsPosition keys (slice_index questions k) (slice_index places k)

-- only places from `first` on and before `end` are other than they were
abbrev pub IsSameOutside : ℕ → ℕ → List ℕ → List ℕ → Type 0
IsSameOutside first end before after = (k : ℕ) → (k < first) ⊎ (end ≤ k) → slice_index after k ≡ slice_index before k

-- from `before` to `after` at most as many times t steps were taken as there are questions, with 2 ^ t at most `most`
abbrev pub TakesEach : ℕ → ℕ → ℕ → ℕ → Type 0
TakesEach most count before after = (t : ℕ) × (after ≤ before + count * t) × (2 ^ t ≤ most)

-- the same, with 2 ^ t at most `each` times (far + 1) ^ 2
abbrev pub ReadsEachWithin : ℕ → ℕ → ℕ → ℕ → ℕ → Type 0
ReadsEachWithin each far count before after = TakesEach (each * (far + 1) ^ 2) count before after
