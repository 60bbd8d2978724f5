use Rattle.std.proofs.Common.{◌≡◌, ◌+◌, ◌-◌, suc, take, drop, length, ◌∷◌, [], List, ℕ, ap, sym, ◌∙◌, arith}
use Rattle.std.proofs.lemmas.List.{take_rest, nil_from_length, length-take, length-drop}
use Rattle.pgm_script.specs.Words.{lines_of}
use Rattle.pgm_script.proofs.WordLemmas.{lines-cut, lines-last}
use Rattle.pgm_script.proofs.words.cut_line.Goals as goal

pub returns-then-end-text-clause-lines : goal.returns-then-end-text-clause-lines
returns-then-end-text-clause-lines c =
    let text = c.args.text.now in
    let e = c.line_len-end.result in
    let next : suc e ≡ e + 1 = omega arith in
    lines-cut text e (omega arith) c.line_len-end.ensures.before (c.line_len-end.ensures.found (omega arith))
    ∙ ap (λ (n : ℕ). take e text ∷ lines_of (drop n text)) next
    ∙ ap (λ (w : List ℕ). take e text ∷ lines_of w) (sym (take_rest text (e + 1)))

pub returns-else-end-text-clause-lines : goal.returns-else-end-text-clause-lines
returns-else-end-text-clause-lines c =
    let text = c.args.text.now in
    let e = c.line_len-end.result in
    let none : take (length text - e) (drop e text)
    ≡ [] = nil_from_length _ (omega (arith, length-take (length text - e) (drop e text), length-drop e text)) in
    lines-last text (omega arith) (λ k below. c.line_len-end.ensures.before k (omega arith))
    ∙ ap (λ (w : List ℕ). text ∷ lines_of w) (sym none)
