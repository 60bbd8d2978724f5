use Rattle.std.proofs.Common.{◌≡◌, ◌∙◌, ◌+◌, ◌<◌, ◌++◌, ◌∷◌, [], ap, sym, take, get_or, length, List, ℕ, arith}
use Rattle.std.proofs.lemmas.List.{take_more}
use Rattle.std.proofs.lemmas.List.Elements.{filter_map-append}
use Rattle.map_replay.specs.declared.question.Question.{Question}
use Rattle.pgm_script.specs.declared.script.ScriptLine.{ScriptLine}
use Rattle.pgm_script.specs.declared.script.ScriptLine.TheVariants.{Find}
use Rattle.program.specs.Inputs.{map_question_in, map_questions_in}
use Rattle.program.proofs.history.map_questions_in.Goals as goal

-- the questions up to a place, and that of the line there
one_more : (lines : List ScriptLine) (i : ℕ) (d : ScriptLine) → i < length lines →
    map_questions_in (take i lines) ++ map_questions_in (get_or lines i d ∷ []) ≡ map_questions_in (take (i + 1) lines)
one_more lines i d there =
    sym (filter_map-append map_question_in (take i lines) (get_or lines i d ∷ []))
    ∙ ap map_questions_in (sym (take_more lines i d there))

pub loop-i-preserved : goal.loop-i-preserved
loop-i-preserved c =
    let line = get_or c.args.lines.now c.loop-i.i (Find 0) in
    c.in_ok-push_map_question.ensures ∙ ap (λ (u : List Question). u ++ map_questions_in (line ∷ [])) c.loop-i.invariant
    ∙ one_more c.args.lines.now c.loop-i.i (Find 0) (omega arith)
