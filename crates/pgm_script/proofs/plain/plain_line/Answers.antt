use Rattle.std.proofs.Common.{◌≡◌, ◌∷◌, [], ℕ, length, take, sym, ap, ◌∙◌, subst, arith}
use Rattle.pgm_script.specs.declared.script.ScriptLine.{ScriptLine}
use Rattle.pgm_script.specs.Verbs.{command_of}
use Rattle.pgm_script.specs.Plain.{BeginsWithLine}
use Rattle.pgm_script.proofs.PlainLemmas.{one-number, two-numbers}
use Rattle.pgm_script.proofs.plain.plain_line.Goals as goal

pub returns-then-count-eq1 : goal.returns-then-count-eq1
returns-then-count-eq1 c =
    let command = command_of c.in_ok-verb.verb in
    let first = c.in_ok-first.first in
    let count : length command.most ≡ 1 = sym c.count.ensures.count ∙ c.if-count-eq1.true in
    let P : ScriptLine → Type 0 = λ made. BeginsWithLine c.args.kind c.args.text.now made c.in_ok-after.after.now in
    subst P
    (sym (c.script_line.ensures ∙ ap (λ (n : ℕ). command.line (take n (first ∷ 0 ∷ 0 ∷ 0 ∷ 0 ∷ 0 ∷ 0 ∷ 0 ∷ []))) count))
    (one-number c.args.kind c.args.text.now command
    c.in_ok-verb.rest.now c.in_ok-verb.ensures.command first _ _ c.in_ok-first.ensures c.in_ok-after.ensures count)

pub returns : goal.returns
returns c =
    let command = command_of c.in_ok-verb.verb in
    let first = c.in_ok-first.first in
    let second = c.in_ok-second.second in
    let begins = c.in_ok-verb.ensures.command in
    let count : length command.most
    ≡ 2 = omega (arith, c.count.ensures.count, c.if-count-eq1.false, begins.counted.0, begins.counted.1) in
    let P : ScriptLine → Type 0 = λ made. BeginsWithLine c.args.kind c.args.text.now made c.in_ok-after-2.after.now in
    subst P
    (sym (c.script_line-2.ensures
    ∙ ap (λ (n : ℕ). command.line (take n (first ∷ second ∷ 0 ∷ 0 ∷ 0 ∷ 0 ∷ 0 ∷ 0 ∷ []))) count))
    (two-numbers c.args.kind c.args.text.now command c.in_ok-verb.rest.now
    begins first second _ _ _ c.in_ok-first.ensures c.in_ok-second.ensures c.in_ok-after-2.ensures count)
