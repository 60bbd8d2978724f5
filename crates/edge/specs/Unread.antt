-- Why a whole file wasn't read.
use Rattle.std.specs.Prelude.{◌≡◌, ℕ, ◌+◌, ◌<◌, ◌≤◌, List, length}
use Rattle.edge.specs.declared.unread.Unread.{Unread}
use Rattle.edge.specs.declared.unread.Unread.TheVariants.{ReadFault, TooLong, NoMemory}
use Rattle.edge.specs.Readers.{Origin}
use Rattle.edge.specs.Readers.Origin.{of_shelf, of_memory, of_bytes}

-- where each fault comes from
abbrev pub origin_of : Unread → Origin
origin_of ReadFault = of_shelf
origin_of (TooLong got) = of_bytes
origin_of NoMemory = of_memory

-- more bytes were left than `limit`, and `got` is one more than that
abbrev pub AreTooMany : ℕ → List ℕ → Unread → Type 0
AreTooMany limit bytes (TooLong got) = (got ≡ limit + 1) × (limit < length bytes)
AreTooMany limit bytes fault = ⊥

-- at most this many bytes are taken, whatever the fault
abbrev pub AreAtMost : {E : Type 0} → ℕ → List ℕ → E → Type 0
AreAtMost most taken fault = length taken ≤ most
