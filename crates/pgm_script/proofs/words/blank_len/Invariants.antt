use Rattle.std.proofs.Common.{◌≡◌, ℕ, ◌<◌, get_or, true}
use Rattle.pgm_script.specs.Words.{is_blank}
use Rattle.pgm_script.proofs.words.blank_len.Given as goal

abbrev pub invariant-loop-i : goal.invariant-loop-i
invariant-loop-i l = (k : ℕ) → k < l.i → is_blank (get_or l.line k 0) ≡ true
