use Rattle.std.proofs.Common.{◌≡◌, ◌∙◌, ℕ, List, None, false, subst}
use Rattle.levels.specs.Indexes.{PgmIndex}
use Rattle.commands.specs.Tasks.{bounds_of}
use Rattle.commands.specs.Texts.Query.{IsAnswered}
use Rattle.commands.proofs.AnswerTexts.{some_answers}
use Rattle.written.proofs.AppendLemmas.{BreaksOff-more}
use Rattle.written.proofs.WritingLemmas.{behind, broken}
use Rattle.commands.proofs.relax.write_relaxed.Goals as goal

-- questions have answers, of which none was written
pub returns-in_err-write_index : goal.returns-in_err-write_index
returns-in_err-write_index g c =
    let answers = some_answers
    (λ (index : PgmIndex). index) c.args.index.now.keys (bounds_of c.args.bounds) None c.args.questions.now tt in (
      answers.0,
      answers.1,
      broken _ c.from_residual.result c.from_residual.ensures.1
          (BreaksOff-more answers.0 c.in_err-write_index.ensures),
    )

pub returns : goal.returns
returns g c =
    let keys : c.as_slice-keys.result.now ≡ c.args.index.now.keys = c.as_slice-keys.ensures.keys ∙ c.keys.ensures in
    let (answers, answered, written) = c.write_answers.ensures in (
      answers,
      subst (λ (k : List ℕ). IsAnswered k (bounds_of c.args.bounds) c.args.questions.now false answers) keys answered,
      behind c.write_answers.new.out _ c.write_answers.result c.in_ok-write_index.ensures written,
    )
