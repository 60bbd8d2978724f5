-- What makes levels, where it is two closures. No public clause cites it.
use Rattle.std.specs.Prelude.{◌≡◌, ℕ, Bool, List, Vec, Result, IfOk}
use Rattle.std.specs.declared.alloc.AllocError.{AllocError}
use Rattle.std.specs.declared.alloc.Global.{Global}
use denote.Param.Members.{Shared}
use denote.Ref.{Bor}
use Rattle.tombstones.specs.declared.entry.Entry.{Entry}
use Rattle.tombstones.specs.Entries.{IsAscending, IsMerge}
use Rattle.levels.specs.Indexes.{PgmIndex, IsIndexOf}

-- the merge of two lists of entries, unless memory ran out
abbrev pub IsMergeOf : List Entry → List Entry → Bool → Result (Vec Entry Global) AllocError → Type 0
IsMergeOf newer older deepest merged = IfOk merged (λ list. IsMerge newer older deepest list.items)

-- the closure may be called with any two ascending lists, and gives their merge
abbrev pub Merges : {F : Type 0} →
    Shared F (Bor (List Entry) × (Bor (List Entry) × (Bool × Unit {0}))) (Result (Vec Entry Global) AllocError) →
    F → Type 0
Merges g f = (newer older : Bor (List Entry)) (deepest : Bool) → IsAscending newer.now → IsAscending older.now →
    g.pre f (newer, (older, (deepest, tt)))
    × ((merged : Result (Vec Entry Global) AllocError) →
    g.post f (newer, (older, (deepest, tt))) merged → IsMergeOf newer.now older.now deepest merged)

-- the closure may be called with any keys, and gives their index
abbrev pub Builds : {F : Type 0} → Shared F (List ℕ × Unit {0}) (Result PgmIndex AllocError) → F → Type 0
Builds g f = (keys : List ℕ) → g.pre f (keys, tt)
    × ((built : Result PgmIndex AllocError) → g.post f (keys, tt) built → IfOk built (IsIndexOf keys 64 4))
