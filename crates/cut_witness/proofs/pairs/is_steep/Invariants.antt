use Rattle.std.proofs.Common.{ℕ, ◌<◌, ◌≤◌}
use Rattle.exact_cross.specs.PointLists.{points_in}
use Rattle.cut_witness.specs.Pairs.{steep_gap, Allows}
use Rattle.cut_witness.proofs.pairs.is_steep.Given as goal

-- the line is allowed at each place so far
abbrev pub invariant-loop-place : goal.invariant-loop-place
invariant-loop-place l =
    (j : ℕ) → l.s ≤ j → j < l.place → Allows (steep_gap (points_in l.points) l.eps l.a l.b j) l.a l.b j
