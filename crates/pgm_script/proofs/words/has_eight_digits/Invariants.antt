use Rattle.std.proofs.Common.{◌≡◌, ◌≤◌, ◌<◌, ℕ, true, get_or}
use Rattle.std.specs.Char.{is_ascii_digit}
use Rattle.pgm_script.proofs.words.has_eight_digits.Given as goal

abbrev pub invariant-loop-i : goal.invariant-loop-i
invariant-loop-i l = l.all ≡ true → (k : ℕ) → l.at ≤ k → k < l.i → is_ascii_digit (get_or l.line k 0) ≡ true
