use Rattle.std.proofs.Common.{drop, map}
use Rattle.written.proofs.LoopLemmas.{HasWritten}
use Rattle.commands.proofs.save.write_pieces.Given as goal

-- the pieces before this place were handed over
abbrev pub invariant-loop-i : goal.invariant-loop-i
invariant-loop-i g l = HasWritten g.S.Sink l.fn.out l.out
    (map (λ piece. piece.items) l.pieces) (map (λ piece. piece.items) (drop l.i l.pieces))
