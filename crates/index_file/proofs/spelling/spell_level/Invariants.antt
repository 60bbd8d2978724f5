use Rattle.std.proofs.Common.{◌≡◌, ◌++◌, length, take, map}
use Rattle.std.specs.List.{flat_map}
use Rattle.index_file.specs.Spelling.{number, run_bytes}
use Rattle.index_file.specs.Spelled.{saved_run}
use Rattle.index_file.proofs.spelling.spell_level.Given as goal

-- so far the bytes are those of the number of runs and of so many runs
abbrev pub invariant-loop-segment : goal.invariant-loop-segment
invariant-loop-segment l =
    l.bytes.items ≡ number (length l.segments) ++ flat_map run_bytes (map saved_run (take l.segment-index l.segments))
