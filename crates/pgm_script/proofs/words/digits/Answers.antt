use Rattle.std.proofs.Common.{ℕ, List, refl, subst, arith}
use Rattle.pgm_script.specs.Cuts.{HasDigits}
use Rattle.pgm_script.proofs.words.digits.Goals as goal

none-yet : (line : List ℕ) → HasDigits line 0 0
none-yet line = record { digits = refl; value_is = refl }

pub digits_from-requires-then-not-has_eight_digits-2-clause-so_far :
    goal.digits_from-requires-then-not-has_eight_digits-2-clause-so_far
digits_from-requires-then-not-has_eight_digits-2-clause-so_far c =
    subst (λ (value : ℕ). HasDigits c.args.line.now 8 value)
    (omega arith) (c.eight_digits-first.ensures.digits 0 (none-yet c.args.line.now))

pub digits_from-requires-2-clause-so_far : goal.digits_from-requires-2-clause-so_far
digits_from-requires-2-clause-so_far c =
    c.eight_digits.ensures.digits c.eight_digits-first.result
    (subst (λ (value : ℕ). HasDigits c.args.line.now 8 value)
    (omega arith) (c.eight_digits-first.ensures.digits 0 (none-yet c.args.line.now)))
