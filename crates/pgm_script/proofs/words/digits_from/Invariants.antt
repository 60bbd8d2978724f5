use Rattle.pgm_script.specs.Cuts.{HasDigits}
use Rattle.pgm_script.proofs.words.digits_from.Given as goal

abbrev pub invariant-loop-i : goal.invariant-loop-i
invariant-loop-i l = HasDigits l.line l.i l.value
