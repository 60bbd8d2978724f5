-- Questions that are searched side by side. No public clause cites it.
use Rattle.std.specs.Prelude.{◌≡◌, ℕ, ◌+◌, ◌-◌, ◌*◌, ◌<◌, ◌≤◌, List, length, min, slice_index}
use Rattle.std.specs.Int.{abs_diff}
use Rattle.window_search.specs.Searches.{lb}
use Rattle.hints.specs.Told.{IsTold}

-- what the hints tell of the questions from `first` on and before `end`
abbrev pub AreTold : List ℕ → ℕ → List ℕ → List ℕ → ℕ → ℕ → Type 0
AreTold hints n questions places first end =
    (k : ℕ) → first ≤ k → k < end → IsTold hints n (slice_index questions k) (slice_index places k)

-- so many places about those that are said leave each question's lower bound open
abbrev pub AreNear : List ℕ → List ℕ → List ℕ → ℕ → ℕ → ℕ → Type 0
AreNear keys questions places first end width =
    (k : ℕ) → first ≤ k → k < end → 2 * abs_diff (slice_index places k) (lb keys (slice_index questions k)) < width

-- places that are so far back, and none above `last`
abbrev pub AreSetOut : List ℕ → List ℕ → ℕ → ℕ → ℕ → ℕ → Type 0
AreSetOut before after first end back last =
    (k : ℕ) → first ≤ k → k < end → slice_index after k ≡ min (slice_index before k - back) last

-- so many places are there from each on, the end among them
abbrev pub HaveRoom : List ℕ → List ℕ → ℕ → ℕ → ℕ → Type 0
HaveRoom keys places first end left = (k : ℕ) → first ≤ k → k < end → slice_index places k + left ≤ length keys + 1

-- the lower bound of q is one of the `left` places from this one on
abbrev pub HoldsBound : List ℕ → ℕ → ℕ → ℕ → Type 0
HoldsBound keys q place left = (place ≤ lb keys q) × (lb keys q < place + left)

-- the same of each question
abbrev pub HoldBounds : List ℕ → List ℕ → List ℕ → ℕ → ℕ → ℕ → Type 0
HoldBounds keys questions places first end left =
    (k : ℕ) → first ≤ k → k < end → HoldsBound keys (slice_index questions k) (slice_index places k) left
