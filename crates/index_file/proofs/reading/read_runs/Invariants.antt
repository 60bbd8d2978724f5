use Rattle.std.proofs.Common.{◌≡◌, ◌+◌, ◌*◌, ◌≤◌, length, All}
use Rattle.std.specs.List.{flat_map}
use Rattle.edge.specs.Readers.{ReadsPiece}
use Rattle.index_file.specs.Spelling.{run_bytes, RunFits}
use Rattle.index_file.proofs.reading.read_runs.Given as goal

-- so far so many runs were read
abbrev pub invariant-loop-done : goal.invariant-loop-done
invariant-loop-done g l = record {
  read : ReadsPiece g.F.Shelf (flat_map run_bytes l.runs.items) l.initial.shelf l.shelf;
  fits : All RunFits l.runs.items;
  len : length l.runs.items ≡ l.done;
  at : l.at ≡ l.initial.at + length (flat_map run_bytes l.runs.items);
  few : l.at ≤ l.initial.at + 21 * l.done;
}
