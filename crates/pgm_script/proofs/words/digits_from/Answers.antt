use Rattle.std.proofs.Common.{◌≡◌, ◌+◌, ◌-◌, ◌*◌, ℕ, get_or, true, refl, subst, sym, arith}
use Rattle.std.specs.Char.{is_ascii_digit}
use Rattle.std.proofs.lemmas.Bool.Decides.{nat_tests}
use Rattle.pgm_script.specs.Cuts.{HasDigits, HasTooGreat}
use Rattle.pgm_script.proofs.NumberLemmas.{digits-more}
use Rattle.pgm_script.proofs.CutLemmas.{if-none}
use Rattle.pgm_script.proofs.words.digits_from.Goals as goal

pub returns-in_err-value-clause-none : goal.returns-in_err-value-clause-none
returns-in_err-value-clause-none c =
    let line = c.args.line.now in
    let byte = get_or line c.loop-i.i 0 in
    let digit : is_ascii_digit byte ≡ true = grind (arith, nat_tests) in
    let more = digits-more line c.loop-i.i c.loop-i.value byte c.loop-i.invariant (omega arith) refl digit in
    if-none _ (HasTooGreat line)
    (record {
      len = c.loop-i.i + 1;
      value = c.loop-i.value * 10 + (byte - 48);
      read = more;
      within = omega arith;
      great = omega (arith, c.in_err-value.ensures);
    })

pub loop-i-preserved : goal.loop-i-preserved
loop-i-preserved c =
    let line = c.args.line.now in
    let byte = get_or line c.loop-i.i 0 in
    let digit : is_ascii_digit byte ≡ true = grind (arith, nat_tests) in
    let more = digits-more line c.loop-i.i c.loop-i.value byte c.loop-i.invariant (omega arith) refl digit in
    let P : ℕ → Type 0 = λ v. HasDigits line (c.loop-i.i + 1) v in
    subst P (sym c.in_ok-value.ensures.1) more
