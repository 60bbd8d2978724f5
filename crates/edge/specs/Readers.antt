-- What a call that reads on from a shelf promises, whatever it reads.
use Rattle.std.specs.Prelude.{◌≡◌, ℕ, ◌≤◌, List, Option, IfSome, Result, Ok, Err, ⊤}
use Rattle.edge.specs.Risen.{HasRisen}
use Rattle.edge.specs.Shelf.{IsEmptied}
use Rattle.edge.specs.Reading.{HasRead}
use Rattle.edge.specs.declared.shelf.Shelf.{Ghosts}

-- where a fault comes from: the shelf failed, memory ran out, or the bytes have it; or the call has no such fault
pub data Origin : Type 0 where
  of_shelf : Origin
  of_memory : Origin
  of_bytes : Origin
  of_none : Origin

-- the count of faults rose where the shelf failed, and stayed where it did not
abbrev pub HasCauseOf : Origin → ℕ → ℕ → Type 0
HasCauseOf of_shelf before after = (before ≤ after) × HasRisen before after
HasCauseOf of_memory before after = after ≡ before
HasCauseOf of_bytes before after = after ≡ before
HasCauseOf of_none before after = ⊥

-- where the bytes have the fault, it is told of those that were left
abbrev pub IsOfBytes : Origin → (List ℕ → Type 0) → Option (List ℕ) → Type 0
IsOfBytes of_shelf Says before = ⊤
IsOfBytes of_memory Says before = ⊤
IsOfBytes of_bytes Says before = IfSome before Says
IsOfBytes of_none Says before = ⊥

-- bytes of which this is true were taken, and those after them are left
abbrev pub LeavesBehind : (List ℕ → Type 0) → Option (List ℕ) → Option (List ℕ) → Type 0
LeavesBehind Takes before after = (taken : List ℕ) × HasRead before taken after × Takes taken

-- where the shelf failed nothing is left, and else what is behind the bytes that were taken
abbrev pub Leaves : Origin → (List ℕ → Type 0) → Option (List ℕ) → Option (List ℕ) → Type 0
Leaves of_shelf Takes before after = IsEmptied before after
Leaves of_memory Takes before after = LeavesBehind Takes before after
Leaves of_bytes Takes before after = LeavesBehind Takes before after
Leaves of_none Takes before after = ⊥

-- a call answered a fault of this origin: the files stayed, the count rose only where the shelf failed, the bytes have
-- the fault that is told of them, and what is left is what was left, but for the bytes that were taken
pub record ReadFails {S : Type 0} (shelf : Ghosts S) (origin : Origin)
    (Says Takes : List ℕ → Type 0) (old new : S) : Type 0 where
  pub files : shelf.files new ≡ shelf.files old
  pub cause : HasCauseOf origin (shelf.faults old) (shelf.faults new)
  pub fault : IsOfBytes origin Says (shelf.rest old)
  pub left : Leaves origin Takes (shelf.rest old) (shelf.rest new)

-- a call answered what it read: the files and the count stayed, and this is true of what was left and of what is left
pub record ReadsOn {S : Type 0} (shelf : Ghosts S)
    (Gives : Option (List ℕ) → Option (List ℕ) → Type 0) (old new : S) : Type 0 where
  pub files : shelf.files new ≡ shelf.files old
  pub quiet : shelf.faults new ≡ shelf.faults old
  pub read : Gives (shelf.rest old) (shelf.rest new)

-- the bytes of the value came next, and those after them are left
abbrev pub GivesPiece : {T : Type 0} → (T → List ℕ) → T → Option (List ℕ) → Option (List ℕ) → Type 0
GivesPiece bytes_of value before after = HasRead before (bytes_of value) after

-- this piece came next, and the bytes after it are left
abbrev pub ReadsPiece : {S : Type 0} → Ghosts S → List ℕ → S → S → Type 0
ReadsPiece shelf piece old new = ReadsOn shelf (λ before after. HasRead before piece after) old new

-- one call of a reader: what it gives, and of each fault where it comes from, what it says of the bytes that were left,
-- and which bytes it takes
abbrev pub Reads : {S T E : Type 0} → Ghosts S → (E → Origin) → (T → Option (List ℕ) → Option (List ℕ) → Type 0)
    → (List ℕ → E → Type 0) → (List ℕ → E → Type 0) → S → Result T E → S → Type 0
Reads shelf origin Gives Says Takes old (Ok value) new = ReadsOn shelf (Gives value) old new
Reads shelf origin Gives Says Takes old (Err fault) new =
    ReadFails shelf (origin fault) (λ bytes. Says bytes fault) (λ taken. Takes taken fault) old new
