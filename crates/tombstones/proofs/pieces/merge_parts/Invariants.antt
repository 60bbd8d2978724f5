-- The parts so far are merged, up to the edge before the next one.
use Rattle.std.proofs.Common.{Some}
use Rattle.tombstones.specs.Parts.{IsBetween, edge_of, longer_of, merged_at}
use Rattle.tombstones.proofs.pieces.merge_parts.Given as goal

abbrev pub invariant-loop-list : goal.invariant-loop-list
invariant-loop-list g l = IsBetween (Some 0)
    (edge_of (longer_of l.newer l.older) l.parts l.list-index) (merged_at l.newer l.older l.fn.deepest) l.merged.items
