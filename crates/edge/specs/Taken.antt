-- The file that a shelf in memory has taken.
use Rattle.std.specs.Prelude.{ℕ, ◌<◌, ◌≤◌, List, [], length, drop, Option, None, Some, String, Vec}
use Rattle.std.specs.Option.{ForSome}
use Rattle.std.specs.declared.alloc.Global.{Global}
use Rattle.edge.specs.declared.mem_shelf.Taken.{Taken}
use Rattle.edge.specs.Files.{file_at}

-- what is left of it
abbrev pub bytes_left : List (String Global × Vec ℕ Global) → Option Taken → List ℕ
bytes_left files None = []
bytes_left files (Some taken) = drop taken.at (file_at files taken.file)

-- a place in one of the files
abbrev pub IsTakenOf : List (String Global × Vec ℕ Global) → Option Taken → Type 0
IsTakenOf files taken =
    ForSome taken (λ taken. (taken.file < length files) × (taken.at ≤ length (file_at files taken.file)))
