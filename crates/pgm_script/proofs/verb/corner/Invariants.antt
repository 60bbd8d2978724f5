use Rattle.std.proofs.Common.{◌≡◌, ◌-◌, ◌++◌, take, replicate}
use Rattle.pgm_script.proofs.verb.corner.Given as goal

abbrev pub invariant-loop-c : goal.invariant-loop-c
invariant-loop-c l = l.coords ≡ take l.c l.numbers ++ replicate (4 - l.c) 0
