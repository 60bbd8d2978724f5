use Rattle.std.proofs.Common.{◌≡◌, ℕ, ◌<◌, get_or}
use Rattle.index_file.specs.Spelling.{magic}
use Rattle.index_file.proofs.reading.read_magic.Given as goal

-- the bytes so far are those of PGMINDEX
abbrev pub invariant-loop-at : goal.invariant-loop-at
invariant-loop-at g l = (k : ℕ) → k < l.at → get_or l.bytes k 0 ≡ get_or magic k 0
