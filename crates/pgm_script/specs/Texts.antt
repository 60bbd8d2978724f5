-- What is read of a file as a text of limited length.
use Rattle.std.specs.Prelude.{◌≡◌, ℕ, ◌+◌, ◌<◌, ◌≤◌, List, length, Option, IfSome, Result, Ok, Err}
use Rattle.edge.specs.Readers.{Origin, Reads}
use Rattle.edge.specs.Readers.Origin.{of_shelf, of_memory, of_bytes, of_none}
use Rattle.edge.specs.Shelf.{TakesAtMost}
use Rattle.edge.specs.Unread.{AreAtMost}
use Rattle.edge.specs.declared.shelf.Shelf.{Ghosts}
use Rattle.edge.specs.declared.unread.Unread.{Unread}
use Rattle.edge.specs.declared.unread.Unread.TheVariants as unread
use Rattle.pgm_script.specs.declared.fault.ScriptFault.{ScriptFault}
use Rattle.pgm_script.specs.declared.fault.ScriptFault.TheVariants.{At, ReadFault, TooLong, NoMemory}

-- the reading of bytes: all of them, or that they are more than `limit`
abbrev pub IsTextOf : ℕ → List ℕ → Result (List ℕ) ScriptFault → Type 0
IsTextOf limit bytes (Ok text) = (text ≡ bytes) × (length bytes ≤ limit)
IsTextOf limit bytes (Err (TooLong got)) = (got ≡ limit + 1) × (limit < length bytes)
IsTextOf limit bytes (Err ReadFault) = ⊥
IsTextOf limit bytes (Err (At line why)) = ⊥
IsTextOf limit bytes (Err NoMemory) = ⊥

-- where each fault comes from; no line is judged
abbrev pub origin_of : ScriptFault → Origin
origin_of ReadFault = of_shelf
origin_of (TooLong got) = of_bytes
origin_of (At line why) = of_none
origin_of NoMemory = of_memory

-- why a text wasn't read, by why its file wasn't
abbrev pub fault_of : Unread → ScriptFault
fault_of unread.ReadFault = ReadFault
fault_of (unread.TooLong got) = TooLong got
fault_of unread.NoMemory = NoMemory

-- the text is all that was left, and at most one byte more than it may have is gone
pub record GivesText (limit : ℕ) (text : List ℕ) (before after : Option (List ℕ)) : Type 0 where
  pub text_is : IfSome before (λ bytes. IsTextOf limit bytes (Ok text))
  pub taken : TakesAtMost (limit + 1) before after

-- a call that reads a text
abbrev pub ReadsText : {S T : Type 0} → Ghosts S → ℕ → (T → List ℕ) → S → Result T ScriptFault → S → Type 0
ReadsText shelf limit text_of old result new = Reads shelf origin_of (λ value. GivesText limit (text_of value))
    (λ bytes fault. IsTextOf limit bytes (Err fault)) (AreAtMost (limit + 1)) old result new
