use Rattle.std.proofs.Common.{◌≤◌, ℕ, List, length, min, take}
use Rattle.std.specs.Prelude.{All}
use Rattle.commands.specs.Texts.Neighbours.{TellsNear}
use Rattle.commands.proofs.neighbours.greatest_room.Given as goal

-- the answers of the centres before this place have room, and there are such
abbrev pub invariant-loop-i : goal.invariant-loop-i
invariant-loop-i l =
    All (λ centre. min (length l.boxes.codes) centre.count ≤ l.most) (take l.i l.centres)
    × All (λ centre. (pieces : List (List ℕ)) × TellsNear l.boxes.dims l.boxes.codes centre pieces) (take l.i l.centres)
