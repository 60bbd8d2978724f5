-- Files in memory.
use Rattle.std.specs.Prelude.{ℕ, zero, suc, List, [], ◌∷◌, Option, None, Some, if◌then◌else◌, String, Vec}
use Rattle.std.specs.Str.{bytes_eq}
use Rattle.std.specs.String.{string_bytes}
use Rattle.std.specs.declared.alloc.Global.{Global}

-- the contents of the first file of this name
abbrev pub contents_of : List (String Global × Vec ℕ Global) → List ℕ → Option (List ℕ)
contents_of [] name = None
contents_of (file ∷ files) name =
    if bytes_eq (string_bytes file.0) name then Some file.1.items else contents_of files name

-- the contents of the file in this place
abbrev pub file_at : List (String Global × Vec ℕ Global) → ℕ → List ℕ
file_at [] i = []
file_at (file ∷ files) zero = file.1.items
file_at (file ∷ files) (suc i) = file_at files i
