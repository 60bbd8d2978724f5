use Rattle.std.proofs.Common.{◌≡◌, take}
use Rattle.program.specs.Inputs.{centres_in}
use Rattle.program.proofs.inputs.centres_in.Given as goal

-- those of the lines before this place
abbrev pub invariant-loop-i : goal.invariant-loop-i
invariant-loop-i l = l.centres.items ≡ centres_in (take l.i l.lines)
