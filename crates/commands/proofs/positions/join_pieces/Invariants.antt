use Rattle.std.proofs.Common.{◌≡◌, ◌++◌, take}
use Rattle.std.specs.List.{flat_map}
use Rattle.commands.proofs.positions.join_pieces.Given as goal

-- the positions of the pieces before this one were added
abbrev pub invariant-loop-i : goal.invariant-loop-i
invariant-loop-i l = l.into.items ≡ l.fn.into.items ++ flat_map (λ piece. piece.items) (take l.i l.pieces)
