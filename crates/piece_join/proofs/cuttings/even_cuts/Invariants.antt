-- The cuts so far are those at the values below k.
use Rattle.std.proofs.Common.{◌+◌, ◌≤◌, length}
use Rattle.piece_join.specs.Cuttings.{AreCutsAt, even_place}
use Rattle.piece_join.proofs.cuttings.even_cuts.Given as goal

abbrev pub invariant-loop-k : goal.invariant-loop-k
invariant-loop-k l = record {
  places : AreCutsAt l.m l.k (even_place l.m l.pieces.count) l.cuts.items;
  count : length l.cuts.items + 1 ≤ l.k;
}
