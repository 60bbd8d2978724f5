use Rattle.std.proofs.Common.{◌∙◌, ◌+◌, ap, drop, get_or, List, ℕ, arith}
use Rattle.std.specs.Prelude.{is_some}
use Rattle.std.proofs.lemmas.List.{get_or-map}
use Rattle.window_search.specs.Searches.{lb}
use Rattle.commands.specs.Tasks.{bounds_of}
use Rattle.commands.specs.Texts.Query.{TellsAnswer}
use Rattle.commands.proofs.AnswerTexts.{some_answers}
use Rattle.written.proofs.LoopLemmas.{told_none, told_more, told_all, told_broken}
use Rattle.written.proofs.WritingLemmas.{broken}
use Rattle.commands.proofs.query.write_answers.Goals as goal

pub loop-i-init : goal.loop-i-init
loop-i-init g c = (
  told_none (TellsAnswer c.args.keys.now (bounds_of c.args.bounds) (is_some c.args.told)) c.args.questions.now,
  omega arith,
)

pub loop-i-preserved : goal.loop-i-preserved
loop-i-preserved g c = (
  told_more (TellsAnswer c.args.keys.now (bounds_of c.args.bounds) (is_some c.args.told))
      c.args.questions.now c.loop-i.i 0 c.loop-i.invariant.0
      c.in_ok-write_answer.ensures.told (omega arith),
  omega (arith, c.loop-i.invariant.1, c.in_ok-write_answer.ensures.capacity),
)

pub returns-in_err-write_answer : goal.returns-in_err-write_answer
returns-in_err-write_answer g c =
    let Tells = TellsAnswer c.args.keys.now (bounds_of c.args.bounds) (is_some c.args.told) in
    let (pieces, told, broke) = told_broken Tells c.args.questions.now c.loop-i.i 0 c.loop-i.invariant.0
    c.in_err-write_answer.ensures.told
    (some_answers (λ index. index.now) c.args.keys.now (bounds_of c.args.bounds) c.args.told
    (drop (c.loop-i.i + 1) c.args.questions.now) c.requires.index)
    (omega arith) in
    (pieces, told, broken _ c.from_residual.result c.from_residual.ensures.1 broke)

pub returns : goal.returns
returns g c =
    told_all (TellsAnswer c.args.keys.now (bounds_of c.args.bounds) (is_some c.args.told))
    c.args.questions.now c.loop-i.i c.loop-i.invariant.0 (omega arith)

-- the position at a place is that of the question there
pub write_answer-requires-clause-position : goal.write_answer-requires-clause-position
write_answer-requires-clause-position g c =
    let i = c.loop-i.i in
    ap (λ (p : List ℕ). get_or p i 0) c.requires.positions
    ∙ get_or-map (lb c.args.keys.now) c.args.questions.now i 0 0 (omega arith)
