-- A history: the batches of updates that were published, in order.
use Rattle.logbook.specs.Pages.{Book}
use Rattle.std.specs.Prelude.{◌≡◌, ℕ, ◌<◌, if◌then◌else◌, nat_lt, List, [], ◌∷◌, ◌++◌, length, Result, IfOk, IfErr}
use mathlib.Core.List.{IsPrefix}
use Rattle.log_levels.specs.declared.update.Update.{Update}

-- a prefix of a history: of which one, and its batches
pub record Front : Type 0 where
  pub origin : Book
  pub batches : List (List Update)

-- the updates of all batches, in order
abbrev pub updates_of : List (List Update) → List Update
updates_of [] = []
updates_of (batch ∷ batches) = batch ++ updates_of batches

-- the length of a history: how many updates it has
abbrev pub count_of : List (List Update) → ℕ
count_of history = length (updates_of history)

-- no batch is empty
abbrev pub AreFilled : List (List Update) → Type 0
AreFilled [] = Unit {0}
AreFilled (batch ∷ batches) = (0 < length batch) × AreFilled batches

-- the longer of two histories, and the first where neither is longer
abbrev pub longer_of : List (List Update) → List (List Update) → List (List Update)
longer_of first second = if nat_lt (count_of first) (count_of second) then second else first

-- the history once a batch is published: it stands at the end, but an empty one leaves the history as it is
abbrev pub published : List (List Update) → List Update → List (List Update)
published history [] = history
published history (update ∷ updates) = history ++ (update ∷ updates) ∷ []

-- a look of a reader: what is shown begins with what the reader
-- saw, of the same history; or the reader comes back as it was
pub record IsLookOf (reader : Front) (result : Result Front Front) : Type 0 where
  pub shown : IfOk result (λ look. IsPrefix reader.batches look.batches)
  pub own : IfOk result (λ look. look.origin ≡ reader.origin)
  pub back : IfErr result (λ back. back ≡ reader)
