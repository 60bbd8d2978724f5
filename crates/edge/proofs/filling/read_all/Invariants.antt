use Rattle.std.proofs.Common.{◌≡◌, ◌+◌, ◌-◌, ◌≤◌, min, vec_len}
use Rattle.edge.specs.Readers.{ReadsPiece}
use Rattle.edge.proofs.filling.read_all.Given as goal

abbrev pub invariant-loop-all : goal.invariant-loop-all
invariant-loop-all g l = record {
  so_far : ReadsPiece g.F.Shelf l.all.items l.initial.shelf l.shelf;
  within : vec_len l.all ≤ l.limit + 1;
  room : vec_len l.chunk ≡ min (l.limit + 1) 65536;
}

abbrev pub decreases-loop-all : goal.decreases-loop-all
decreases-loop-all g l = l.limit + 1 - vec_len l.all
