use Rattle.std.proofs.Common.{◌≡◌, ◌*◌, ◌≤◌, take}
use Rattle.index_file.specs.Spelling.{count_runs, runs_of}
use Rattle.index_file.proofs.saved.count_runs.Given as goal

-- the runs of the levels so far, each of which has fewer than 2^32
abbrev pub invariant-loop-i : goal.invariant-loop-i
invariant-loop-i l = record {
  count : l.count ≡ count_runs (runs_of (take l.i l.levels));
  small : l.count ≤ l.i * 4294967296;
}
