-- One question after the other.
use Rattle.std.proofs.Common.{◌≡◌, ◌+◌, ◌<◌, [], ◌∷◌, ◌++◌, ◌∙◌, ap, sym, drop}
use Rattle.std.proofs.Common.{drop-cons, add-one, get_or, length, arith, ℕ, List}
use Rattle.std.proofs.lemmas.List.{drop_all}
use Rattle.written.proofs.LoopLemmas.{written_none, written_more, written_all, broken_there}
use Rattle.window_search.specs.Searches.{lb}
use Rattle.commands.specs.Texts.Find.{found_lines}
use Rattle.commands.specs.Texts.Query.{find_line}
use Rattle.written.proofs.WritingLemmas.{broken}
use Rattle.commands.proofs.find.write_answers.Goals as goal

-- what is left begins with the piece of this question
begins : (keys questions : List ℕ) (i d : ℕ) (piece : List ℕ) → i < length questions →
    piece ≡ find_line (get_or questions i d) (lb keys (get_or questions i d)) →
    found_lines keys (drop i questions) ≡ (piece ∷ []) ++ found_lines keys (drop (i + 1) questions)
begins keys questions i d piece there is =
    ap (found_lines keys)
    (drop-cons questions i d there ∙ ap (λ (n : ℕ). get_or questions i d ∷ drop n questions) (sym (add-one i)))
    ∙ ap (λ (line : List ℕ). line ∷ found_lines keys (drop (i + 1) questions)) (sym is)

pub loop-i-init : goal.loop-i-init
loop-i-init g c = written_none

pub loop-i-preserved : goal.loop-i-preserved
loop-i-preserved g c =
    let piece = c.as_bytes.result.now in
    written_more c.loop-i.invariant c.in_ok-hand_over.ensures
    (begins c.args.sorted.now.keys.items c.args.questions.now c.loop-i.i 0 piece
    (omega arith) (c.as_bytes.ensures ∙ c.fill_answer.ensures))

pub returns-in_err-hand_over : goal.returns-in_err-hand_over
returns-in_err-hand_over g c =
    let piece = c.as_bytes.result.now in
    broken _ c.from_residual.result c.from_residual.ensures.1
    (broken_there _ c.loop-i.invariant c.in_err-hand_over.ensures
    (begins c.args.sorted.now.keys.items c.args.questions.now c.loop-i.i 0 piece
    (omega arith) (c.as_bytes.ensures ∙ c.fill_answer.ensures)))

pub returns : goal.returns
returns g c =
    written_all c.loop-i.invariant
    (ap (found_lines c.args.sorted.now.keys.items) (drop_all c.loop-i.i c.args.questions.now (omega arith)))
