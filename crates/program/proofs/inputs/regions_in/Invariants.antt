use Rattle.std.proofs.Common.{◌≡◌, take}
use Rattle.program.specs.Inputs.{regions_in}
use Rattle.program.proofs.inputs.regions_in.Given as goal

-- those of the lines before this place
abbrev pub invariant-loop-i : goal.invariant-loop-i
invariant-loop-i l = l.regions.items ≡ regions_in (take l.i l.lines)
