-- Keys, hints, and questions for their positions.
use Rattle.std.proofs.Common.{◌∙◌, ℕ, not, List, map, Ok, Err, ap, sym, subst, arith}
use Rattle.std.specs.Prelude.{⊤, Vec}
use Rattle.std.specs.declared.alloc.Global.{Global}
use Rattle.pgm_script.specs.declared.script.ScriptKind.{ScriptKind}
use Rattle.pgm_script.specs.declared.script.ScriptLine.{ScriptLine}
use Rattle.pgm_script.specs.declared.script.ScriptLine.TheVariants.{Find}
use Rattle.pgm_script.specs.declared.list.Finds.{Finds}
use Rattle.command_line.specs.Requests.{Finding, Request, found_by}
use Rattle.commands.specs.Tasks.{task_of}
use Rattle.commands.specs.Tasks as tasks
use Rattle.program.specs.Files.{Files}
use Rattle.program.specs.Stops.{Answers}
use Rattle.program.specs.Inputs.{reads, reads_keys, reads_hints, reads_script}
use Rattle.program.specs.Inputs.{questions_in, gives, no_hints, then, Reading}
use Rattle.program.proofs.InputLemmas.{then_goes_on, then_stops, second_stops, handed_on}
use Rattle.program.proofs.Questions.{questions_in-finds}
use Rattle.program.proofs.tasks.find_task.Goals as goal

asked : (files : Files) (finding : Finding) (keys questions : List ℕ) →
    reads_keys (not finding.narrow) files finding.file (Ok keys) → reads_hints files finding.hints (Ok tt) →
    reads_script ScriptKind.Find files finding.script (Ok (map Find questions)) →
    reads files (Request.find finding) (Ok (tasks.Task.find keys questions))
asked files finding keys questions index hints script = (
  keys,
  index,
  (
    tt,
    hints,
    (map Find questions, script, ap (λ (q : List ℕ). Ok (tasks.Task.find keys q)) (sym (questions_in-finds questions))),
  ),
)

-- what goes on once the keys are read, and once the hints are
abbrev asks_of : Files → Finding → List ℕ → ⊤ → Reading tasks.Task
asks_of files finding keys any = then
    (reads_script ScriptKind.Find files finding.script) (λ lines. gives (tasks.Task.find keys (questions_in lines)))

pub returns-clause-answer : goal.returns-clause-answer
returns-clause-answer g c =
    let finding = found_by c.args.finding in
    let questions = c.in_ok-finds.finds.numbers.items in
    let one = c.in_ok-sorted.ensures in
    let two = c.in_ok-hints.ensures in
    let three = c.in_ok-finds.ensures in
    let quiet = three.answer.unfaulted ∙ two.answer.unfaulted ∙ one.answer.unfaulted in
    record {
      ok = asked _ finding _ questions one.answer.ok
          (subst (λ (files : Files). reads_hints files finding.hints (Ok tt)) one.files two.answer.ok)
          (subst (λ (files : Files). reads_script ScriptKind.Find files finding.script (Ok (map Find questions)))
          (two.files ∙ one.files) three.answer.ok);
      unfaulted = quiet;
      stopped = tt;
      faulted = λ rose. absurd (omega (arith, rose, quiet));
      never_falls = omega (arith, quiet);
    }

pub returns-in_err-hints-clause-answer : goal.returns-in_err-hints-clause-answer
returns-in_err-hints-clause-answer g c =
    let before = g.F.Shelf.faults c.args.files.now in
    let middle = g.F.Shelf.faults c.sorted_keys.new.files in
    let after = g.F.Shelf.faults c.file_hints.new.files in
    let files = g.F.Shelf.files c.args.files.now in
    let finding = found_by c.args.finding in
    let stopped = c.in_err-hints.field-0.0 in
    let one = c.in_ok-sorted.ensures in
    let two = subst
    (λ (f : Files). Answers {B = Vec ℕ Global} (reads_hints f finding.hints) no_hints middle after (Err stopped))
    one.files c.in_err-hints.ensures.answer in
    (subst (Answers (reads files (Request.find finding)) task_of before after)
    (sym (handed_on _ stopped c.from_residual-in_err-hints.ensures.1))
    (second_stops (reads_keys (not finding.narrow) files finding.file)
    (λ keys. reads_hints files finding.hints) (asks_of files finding)
    (λ sorted. sorted.keys.items)
    (no_hints {A = Vec ℕ Global}) task_of before middle after c.in_ok-sorted.sorted stopped one.answer two))

pub returns-in_err-finds-clause-answer : goal.returns-in_err-finds-clause-answer
returns-in_err-finds-clause-answer g c =
    let before = g.F.Shelf.faults c.args.files.now in
    let middle = g.F.Shelf.faults c.sorted_keys.new.files in
    let later = g.F.Shelf.faults c.file_hints.new.files in
    let after = g.F.Shelf.faults c.script_lines.new.files in
    let files = g.F.Shelf.files c.args.files.now in
    let finding = found_by c.args.finding in
    let stopped = c.in_err-finds.field-0.0 in
    let keys = c.in_ok-sorted.sorted.keys.items in
    let one = c.in_ok-sorted.ensures in
    let two =
    subst (λ (f : Files). Answers (reads_hints f finding.hints) no_hints middle later (Ok c.in_ok-hints.hints))
    one.files c.in_ok-hints.ensures.answer in
    let three = subst
    (λ (f : Files). Answers {B = Finds} (reads_script ScriptKind.Find f finding.script)
    (λ finds. map Find finds.numbers.items) later after (Err stopped))
    (c.in_ok-hints.ensures.files ∙ one.files) c.in_err-finds.ensures.answer in
    (subst (Answers (reads files (Request.find finding)) task_of before after)
    (sym (handed_on _ stopped c.from_residual-in_err-finds.ensures.1))
    (then_goes_on (reads_keys (not finding.narrow) files finding.file)
    (λ keys. then (reads_hints files finding.hints) (asks_of files finding keys))
    (λ sorted. sorted.keys.items) task_of before after middle c.in_ok-sorted.sorted (Err stopped) one.answer
    (second_stops (reads_hints files finding.hints) (λ any. reads_script ScriptKind.Find files finding.script)
    (λ any lines. gives (tasks.Task.find keys (questions_in lines))) no_hints
    (λ (finds : Finds). map Find finds.numbers.items)
    task_of middle later after c.in_ok-hints.hints stopped two three)))
