use Rattle.std.proofs.Common.{◌+◌, ◌-◌, ◌<◌, ℕ, get_or, refl, subst, sym, arith}
use Rattle.pgm_script.specs.Cuts.{HasDigits}
use Rattle.pgm_script.proofs.NumberLemmas.{digits-eight}
use Rattle.pgm_script.proofs.EightLemmas.{digit-of, eight-value, eight-below}
use Rattle.pgm_script.proofs.words.eight_digits.Goals as goal

pub returns-clause-digits : goal.returns-clause-digits
returns-clause-digits c = λ number so_far.
    let line = c.args.line.now in
    let value = eight-value c.eight_bytes-digits.result (get_or line c.args.at 0) (get_or line (c.args.at + 1) 0)
    (get_or line (c.args.at + 2) 0) (get_or line (c.args.at + 3) 0) (get_or line (c.args.at + 4) 0)
    (get_or line (c.args.at + 5) 0) (get_or line (c.args.at + 6) 0) (get_or line (c.args.at + 7) 0)
    (get_or line c.args.at 0 - 48) (get_or line (c.args.at + 1) 0 - 48)
    (get_or line (c.args.at + 2) 0 - 48) (get_or line (c.args.at + 3) 0 - 48) (get_or line (c.args.at + 4) 0 - 48)
    (get_or line (c.args.at + 5) 0 - 48) (get_or line (c.args.at + 6) 0 - 48) (get_or line (c.args.at + 7) 0 - 48)
    (digit-of (get_or line c.args.at 0) (c.requires.eight.digits c.args.at (omega arith) (omega arith)))
    (digit-of (get_or line (c.args.at + 1) 0) (c.requires.eight.digits (c.args.at + 1) (omega arith) (omega arith)))
    (digit-of (get_or line (c.args.at + 2) 0) (c.requires.eight.digits (c.args.at + 2) (omega arith) (omega arith)))
    (digit-of (get_or line (c.args.at + 3) 0) (c.requires.eight.digits (c.args.at + 3) (omega arith) (omega arith)))
    (digit-of (get_or line (c.args.at + 4) 0) (c.requires.eight.digits (c.args.at + 4) (omega arith) (omega arith)))
    (digit-of (get_or line (c.args.at + 5) 0) (c.requires.eight.digits (c.args.at + 5) (omega arith) (omega arith)))
    (digit-of (get_or line (c.args.at + 6) 0) (c.requires.eight.digits (c.args.at + 6) (omega arith) (omega arith)))
    (digit-of (get_or line (c.args.at + 7) 0) (c.requires.eight.digits (c.args.at + 7) (omega arith) (omega arith)))
    c.eight_bytes-digits.ensures in
    subst (λ (value : ℕ). HasDigits line (c.args.at + 8) value) (omega (arith, value))
    (digits-eight line c.args.at number
    (get_or line c.args.at 0 - 48) (get_or line (c.args.at + 1) 0 - 48) (get_or line (c.args.at + 2) 0 - 48)
    (get_or line (c.args.at + 3) 0 - 48) (get_or line (c.args.at + 4) 0 - 48) (get_or line (c.args.at + 5) 0 - 48)
    (get_or line (c.args.at + 6) 0 - 48) (get_or line (c.args.at + 7) 0 - 48) so_far c.requires.eight
    refl refl refl refl refl refl refl refl)

pub returns-clause-small : goal.returns-clause-small
returns-clause-small c =
    let line = c.args.line.now in
    let value = eight-value c.eight_bytes-digits.result (get_or line c.args.at 0) (get_or line (c.args.at + 1) 0)
    (get_or line (c.args.at + 2) 0) (get_or line (c.args.at + 3) 0) (get_or line (c.args.at + 4) 0)
    (get_or line (c.args.at + 5) 0) (get_or line (c.args.at + 6) 0) (get_or line (c.args.at + 7) 0)
    (get_or line c.args.at 0 - 48) (get_or line (c.args.at + 1) 0 - 48)
    (get_or line (c.args.at + 2) 0 - 48) (get_or line (c.args.at + 3) 0 - 48) (get_or line (c.args.at + 4) 0 - 48)
    (get_or line (c.args.at + 5) 0 - 48) (get_or line (c.args.at + 6) 0 - 48) (get_or line (c.args.at + 7) 0 - 48)
    (digit-of (get_or line c.args.at 0) (c.requires.eight.digits c.args.at (omega arith) (omega arith)))
    (digit-of (get_or line (c.args.at + 1) 0) (c.requires.eight.digits (c.args.at + 1) (omega arith) (omega arith)))
    (digit-of (get_or line (c.args.at + 2) 0) (c.requires.eight.digits (c.args.at + 2) (omega arith) (omega arith)))
    (digit-of (get_or line (c.args.at + 3) 0) (c.requires.eight.digits (c.args.at + 3) (omega arith) (omega arith)))
    (digit-of (get_or line (c.args.at + 4) 0) (c.requires.eight.digits (c.args.at + 4) (omega arith) (omega arith)))
    (digit-of (get_or line (c.args.at + 5) 0) (c.requires.eight.digits (c.args.at + 5) (omega arith) (omega arith)))
    (digit-of (get_or line (c.args.at + 6) 0) (c.requires.eight.digits (c.args.at + 6) (omega arith) (omega arith)))
    (digit-of (get_or line (c.args.at + 7) 0) (c.requires.eight.digits (c.args.at + 7) (omega arith) (omega arith)))
    c.eight_bytes-digits.ensures in
    let below = eight-below (get_or line c.args.at 0 - 48) (get_or line (c.args.at + 1) 0 - 48)
    (get_or line (c.args.at + 2) 0 - 48) (get_or line (c.args.at + 3) 0 - 48) (get_or line (c.args.at + 4) 0 - 48)
    (get_or line (c.args.at + 5) 0 - 48) (get_or line (c.args.at + 6) 0 - 48) (get_or line (c.args.at + 7) 0 - 48)
    (digit-of (get_or line c.args.at 0) (c.requires.eight.digits c.args.at (omega arith) (omega arith))).below
    (digit-of
    (get_or line (c.args.at + 1) 0) (c.requires.eight.digits (c.args.at + 1) (omega arith) (omega arith))).below
    (digit-of
    (get_or line (c.args.at + 2) 0) (c.requires.eight.digits (c.args.at + 2) (omega arith) (omega arith))).below
    (digit-of
    (get_or line (c.args.at + 3) 0) (c.requires.eight.digits (c.args.at + 3) (omega arith) (omega arith))).below
    (digit-of
    (get_or line (c.args.at + 4) 0) (c.requires.eight.digits (c.args.at + 4) (omega arith) (omega arith))).below
    (digit-of
    (get_or line (c.args.at + 5) 0) (c.requires.eight.digits (c.args.at + 5) (omega arith) (omega arith))).below
    (digit-of
    (get_or line (c.args.at + 6) 0) (c.requires.eight.digits (c.args.at + 6) (omega arith) (omega arith))).below
    (digit-of
    (get_or line (c.args.at + 7) 0) (c.requires.eight.digits (c.args.at + 7) (omega arith) (omega arith))).below in
    subst (λ (value : ℕ). value < 100000000) (sym value) below
