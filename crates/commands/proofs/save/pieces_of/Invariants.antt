use Rattle.std.proofs.Common.{◌≡◌, ◌∷◌, map, take, length}
use Rattle.index_file.specs.Spelling.{head_bytes}
use Rattle.commands.specs.Texts.Save.{level_pieces}
use Rattle.commands.proofs.save.pieces_of.Given as goal

-- the head and the levels so far
abbrev pub invariant-loop-i : goal.invariant-loop-i
invariant-loop-i l =
    map (λ piece. piece.items) l.pieces.items ≡ head_bytes l.fn.bounds.eps l.fn.bounds.eps_rec (length l.index.levels)
    ∷ level_pieces (take l.i l.index.levels)
