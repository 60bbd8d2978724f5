use Rattle.std.proofs.Common.{◌≡◌, ◌+◌, ◌<◌, [], ◌∷◌, ◌++◌, ◌∙◌, ap, sym, drop}
use Rattle.std.proofs.Common.{drop-cons, add-one, get_or, length, arith, ℕ, List}
use Rattle.std.proofs.lemmas.List.{drop_all}
use Rattle.written.proofs.LoopLemmas.{written_none, written_more, written_all, broken_there}
use Rattle.commands.specs.Texts.Drill.{drill_lines}
use Rattle.written.proofs.WritingLemmas.{broken}
use Rattle.commands.proofs.drill.write_counts.Goals as goal

-- what is left begins with this piece
begins : (lines : List (List ℕ)) (i : ℕ) (piece : List ℕ) → i < length lines → piece ≡ get_or lines i [] →
    drop i lines ≡ (piece ∷ []) ++ drop (i + 1) lines
begins lines i piece there is =
    drop-cons lines i [] there ∙ ap (λ (n : ℕ). get_or lines i [] ∷ drop n lines) (sym (add-one i))
    ∙ ap (λ (line : List ℕ). line ∷ drop (i + 1) lines) (sym is)

pub loop-i-init : goal.loop-i-init
loop-i-init g c = written_none

pub loop-i-preserved : goal.loop-i-preserved
loop-i-preserved g c =
    let piece = c.as_bytes.result.now in
    written_more c.loop-i.invariant c.in_ok-hand_over.ensures
    (begins (drill_lines c.args.drill.number c.args.drill.seed c.args.counts) c.loop-i.i piece
    (omega arith) (c.as_bytes.ensures ∙ c.fill_line.ensures))

pub returns-in_err-hand_over : goal.returns-in_err-hand_over
returns-in_err-hand_over g c =
    let piece = c.as_bytes.result.now in
    broken _ c.from_residual.result c.from_residual.ensures.1
    (broken_there _ c.loop-i.invariant c.in_err-hand_over.ensures
    (begins (drill_lines c.args.drill.number c.args.drill.seed c.args.counts) c.loop-i.i piece
    (omega arith) (c.as_bytes.ensures ∙ c.fill_line.ensures)))

pub returns : goal.returns
returns g c =
    written_all c.loop-i.invariant
    (drop_all c.loop-i.i (drill_lines c.args.drill.number c.args.drill.seed c.args.counts) (omega arith))
