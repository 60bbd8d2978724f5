-- How many keys a question leaves behind it, and the places of many questions.
use Rattle.std.specs.Prelude.{◌≡◌, ◌≢◌, ℕ, ◌+◌, ◌^◌, ◌<◌, ◌≤◌, List, length, slice_index}
use Rattle.window_search.specs.Searches.{lb}
use Rattle.hints.specs.Lookups.{IsPosition, IsSameOutside}
use Rattle.kuldebiq.specs.declared.answer.Answer.{Answer}
use Rattle.kuldebiq.specs.declared.answer.TheConstants.{TOO_LITTLE_ROOM}
use Rattle.kuldebiq.specs.Answers.{gives, refuses}

-- how many keys are at most q: those below the number after it
abbrev pub at_most : List ℕ → ℕ → ℕ
at_most keys q = lb keys (q + 1)

-- the place of the number after q, and where there is none, the end
pub record IsPast (keys : List ℕ) (q place : ℕ) : Type 0 where
  pub next : q + 1 < 2 ^ 64 → IsPosition keys (q + 1) place
  pub end : 2 ^ 64 ≤ q + 1 → place ≡ length keys

-- the places behind the first `count` questions: of each that of the number after it
abbrev pub ArePastPositions : List ℕ → List ℕ → List ℕ → ℕ → Type 0
ArePastPositions keys questions places count =
    (k : ℕ) → k < count → IsPosition keys (slice_index questions k + 1) (slice_index places k)

-- something is written for each question, behind which the room stays, and where there is too little room, nothing
pub record WritesEach (questions before after : List ℕ) (answer : Answer) : Type 0 where
  pub room : length before < length questions → answer ≡ refuses TOO_LITTLE_ROOM (length questions)
  pub done : length questions ≤ length before → answer ≡ gives (length questions)
  pub rest : IsSameOutside 0 (length questions) before after
  pub refused : answer.status ≢ 0 → after ≡ before
