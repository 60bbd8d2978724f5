-- Numbers that workers draw from one word, each once.
use Rattle.std.specs.Prelude.{◌≡◌, ◌==◌, if◌then◌else◌, ℕ, ◌<◌, ◌≤◌, Bool, true, false}
use Rattle.std.specs.Prelude.{List, [], ◌∷◌, ◌++◌, Option, Some, None, nat_lt, count_by}
use Rattle.atomic_table.specs.Seated.{TableId}

-- which claims a seat is of, and the numbers there are: those below pieces
pub record Origin : Type 0 where
  pub table : TableId
  pub pieces : ℕ

-- claims: which they are, and for how many workers
pub record Claimed : Type 0 where
  pub origin : Origin
  pub workers : ℕ

-- a worker's seat: of which claims it is, the numbers that it
-- drew, in order, and whether it was told that there are no more
pub record Drawn : Type 0 where
  pub origin : Origin
  pub drawn : List ℕ
  pub ended : Bool

-- the one event of a worker that hasn't ended, where the word is
-- w: it draws w, or ends where w isn't below the number of pieces
pub record IsDrawAt (w : ℕ) (before : Drawn) (answer : Option ℕ) (after : Drawn) : Type 0 where
  pub some : w < before.origin.pieces → (answer ≡ Some w) × (after ≡ record before { drawn = before.drawn ++ w ∷ [] })
  pub none : before.origin.pieces ≤ w → (answer ≡ None) × (after ≡ record before { ended = true })

-- a draw: that event, at the word of its step; a worker that has ended takes no step
pub record IsDraw (before : Drawn) (answer : Option ℕ) (after : Drawn) : Type 0 where
  pub live : before.ended ≡ false → (w : ℕ) × IsDrawAt w before answer after
  pub spent : before.ended ≡ true → (answer ≡ None) × (after ≡ before)

-- how often x stands in the list
abbrev pub times : ℕ → List ℕ → ℕ
times x numbers = count_by (λ n. n == x) numbers

-- once where x is below n, and else never
abbrev pub once_below : ℕ → ℕ → ℕ
once_below x n = if nat_lt x n then 1 else 0

-- a seat that has drawn nothing yet
abbrev pub IsFresh : Origin → Drawn → Type 0
IsFresh origin seat = seat ≡ record { origin = origin; drawn = []; ended = false }

-- how many of the seats have ended
abbrev pub ended_count : List Drawn → ℕ
ended_count seats = count_by (λ seat. seat.ended) seats
