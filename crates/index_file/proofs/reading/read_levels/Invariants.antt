use Rattle.std.proofs.Common.{◌≡◌, ◌+◌, length, All}
use Rattle.std.specs.List.{flat_map}
use Rattle.edge.specs.Readers.{ReadsPiece}
use Rattle.index_file.specs.Spelling.{level_bytes, LevelFits, runs_of}
use Rattle.index_file.proofs.reading.read_levels.Given as goal

-- so far so many levels were read
abbrev pub invariant-loop-done : goal.invariant-loop-done
invariant-loop-done g l = record {
  read : ReadsPiece g.F.Shelf (flat_map level_bytes (runs_of l.levels.items)) l.initial.shelf l.shelf;
  fits : All LevelFits (runs_of l.levels.items);
  len : length (runs_of l.levels.items) ≡ l.done;
  at : l.at ≡ l.initial.at + length (flat_map level_bytes (runs_of l.levels.items));
}
