use Rattle.std.proofs.Common.{◌≡◌, ℕ, suc, length, take, []}
use Rattle.exact_cross.specs.PointLists.{points_in}
use Rattle.piece_join.specs.Pieces.{edge_of}
use Rattle.piece_join.specs.Relaxed.{IsRelaxed}
use Rattle.piece_join.proofs.unjoined.side_by_side.Given as goal

-- the first pieces side by side
abbrev pub invariant-loop-number : goal.invariant-loop-number
invariant-loop-number l = record {
  none : l.number ≡ 0 → l.whole.items ≡ [];
  some : (k : ℕ) → l.number ≡ suc k →
      IsRelaxed (points_in l.work.points) l.work.eps 0
      (edge_of (length l.work.points.xs.now) l.work.cuts.now l.number) (take k l.work.cuts.now) l.whole.items;
}
