-- A place in a list of files.
use Rattle.std.proofs.Common.{◌≡◌, ℕ, zero, suc, ◌<◌, List, [], ◌∷◌, length, get_or}
use Rattle.std.proofs.Common.{drop, if◌then◌else◌, refl, Some, String, Vec, arith}
use Rattle.std.specs.Str.{bytes_eq}
use Rattle.std.specs.String.{string_bytes}
use Rattle.std.specs.declared.alloc.Global.{Global}
use Rattle.edge.specs.Files.{contents_of, file_at}

abbrev Files : Type 0
Files = List (String Global × Vec ℕ Global)

-- the contents are those of the element there
pub file_at-get_or : (files : Files) (i : ℕ) (d : String Global × Vec ℕ Global) →
    i < length files → file_at files i ≡ (get_or files i d).1.items
file_at-get_or [] i d h = absurd (omega arith)
file_at-get_or (file ∷ files) zero d h = refl
file_at-get_or (file ∷ files) (suc i) d h = file_at-get_or files i d (omega arith)

-- a search from a place looks at the file there first
pub contents_of-drop : (files : Files) (name : List ℕ) (i : ℕ) (d : String Global × Vec ℕ Global) → i < length files →
    contents_of (drop i files) name
    ≡ (if bytes_eq
    (string_bytes (get_or files i d).0) name then Some (file_at files i) else contents_of (drop (suc i) files) name)
contents_of-drop [] name i d h = absurd (omega arith)
contents_of-drop (file ∷ files) name zero d h = refl
contents_of-drop (file ∷ files) name (suc i) d h = contents_of-drop files name i d (omega arith)
