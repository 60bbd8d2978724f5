use Rattle.std.proofs.Common.{length}
use Rattle.written.proofs.PieceSteps.{IsHandedTo}
use Rattle.written.proofs.handing.hand_over.Given as goal

-- a front part was handed over, and no fault counted
abbrev pub invariant-loop-rest : goal.invariant-loop-rest
invariant-loop-rest g l = IsHandedTo g.S.Sink l.fn.out l.out l.piece l.rest

abbrev pub decreases-loop-rest : goal.decreases-loop-rest
decreases-loop-rest g l = length l.rest
