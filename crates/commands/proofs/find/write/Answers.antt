-- What is handed over is the text of the questions.
use Rattle.std.proofs.Common.{ap}
use Rattle.written.proofs.WritingLemmas.{broken_text}
use Rattle.commands.specs.Texts.Find.{found_lines}
use Rattle.commands.proofs.find.write.Goals as goal

pub returns : goal.returns
returns g c = (
  found_lines c.args.lookups.sorted.keys.items c.deref-2.result.now,
  ap (found_lines c.args.lookups.sorted.keys.items) c.deref-2.ensures.value,
  c.in_ok-write_answers.ensures,
)

pub returns-in_err-write_answers : goal.returns-in_err-write_answers
returns-in_err-write_answers g c =
    broken_text _ c.from_residual.result c.from_residual.ensures.1
    (ap (found_lines c.args.lookups.sorted.keys.items) c.deref-2.ensures.value) c.in_err-write_answers.ensures
