use Rattle.std.proofs.Common.{◌-◌, ◌≤◌, length, take}
use Rattle.edge.specs.Readers.{ReadsPiece}
use Rattle.edge.proofs.filling.fill.Given as goal

abbrev pub invariant-loop-filled : goal.invariant-loop-filled
invariant-loop-filled g l = record {
  in_range : l.filled ≤ length l.buf;
  so_far : ReadsPiece g.F.Shelf (take l.filled l.buf) l.initial.shelf l.shelf;
}

abbrev pub decreases-loop-filled : goal.decreases-loop-filled
decreases-loop-filled g l = length l.initial.buf - l.filled
