use Rattle.std.proofs.Common.{◌≡◌, take}
use Rattle.program.specs.Inputs.{updates_in}
use Rattle.program.proofs.history.updates_in.Given as goal

-- those of the lines before this place
abbrev pub invariant-loop-i : goal.invariant-loop-i
invariant-loop-i l = l.updates.items ≡ updates_in (take l.i l.lines)
