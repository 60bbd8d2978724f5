use Rattle.std.proofs.Common.{◌≡◌, ◌∙◌, ℕ, List, map, Ok, Err, ap, sym, subst, arith}
use Rattle.pgm_script.specs.declared.script.ScriptKind.{ScriptKind}
use Rattle.pgm_script.specs.declared.script.ScriptLine.TheVariants.{Find}
use Rattle.pgm_script.specs.declared.list.Finds.{Finds}
use Rattle.command_line.specs.Requests.{Building, built_of}
use Rattle.command_line.specs.Requests.Request.{relax}
use Rattle.commands.specs.Tasks.{task_of}
use Rattle.commands.specs.Tasks as tasks
use Rattle.program.specs.Files.{Files}
use Rattle.program.specs.Stops.{Answers}
use Rattle.program.specs.Inputs.{reads, reads_index, reads_script, questions_in, bounds_in, gives}
use Rattle.program.proofs.InputLemmas.{second_stops, handed_on}
use Rattle.program.proofs.Questions.{questions_in-finds}
use Rattle.program.proofs.tasks.relax_task.Goals as goal

asked_relaxed :
    (files : Files) (building : Building) (name keys questions : List ℕ) (bounds : tasks.Bounds) (pieces : ℕ) →
    reads_index files building (Ok keys) →
    bounds ≡ bounds_in building → reads_script ScriptKind.Find files name (Ok (map Find questions)) →
    reads files (relax building name pieces) (Ok (tasks.Task.relax keys bounds pieces questions))
asked_relaxed files building name keys questions bounds pieces index is script = (
  keys,
  index,
  (
    map Find questions,
    script,
    ap (λ (b : tasks.Bounds). Ok (tasks.Task.relax keys b pieces questions)) is
        ∙ ap (λ (q : List ℕ). Ok (tasks.Task.relax keys (bounds_in building) pieces q))
        (sym (questions_in-finds questions)),
  ),
)

pub returns-clause-answer : goal.returns-clause-answer
returns-clause-answer g c =
    let building = built_of c.args.building in
    let name = c.args.script.now in
    let questions = c.in_ok-finds.finds.numbers.items in
    let one = c.in_ok-indexing.ensures in
    let two = c.in_ok-finds.ensures in
    let quiet = two.answer.unfaulted ∙ one.answer.unfaulted in
    record {
      ok = (asked_relaxed _ building name _ questions _ _ one.answer.ok one.bounds
          (subst (λ (files : Files). reads_script ScriptKind.Find files name (Ok (map Find questions)))
          one.files two.answer.ok));
      unfaulted = quiet;
      stopped = tt;
      faulted = λ rose. absurd (omega (arith, rose, quiet));
      never_falls = omega (arith, quiet);
    }

pub returns-in_err-finds-clause-answer : goal.returns-in_err-finds-clause-answer
returns-in_err-finds-clause-answer g c =
    let before = g.F.Shelf.faults c.args.files.now in
    let middle = g.F.Shelf.faults c.indexing.new.files in
    let after = g.F.Shelf.faults c.script_lines.new.files in
    let files = g.F.Shelf.files c.args.files.now in
    let building = built_of c.args.building in
    let name = c.args.script.now in
    let stopped = c.in_err-finds.field-0.0 in
    let one = c.in_ok-indexing.ensures in
    let two = subst (λ (f : Files). Answers {B = Finds}
    (reads_script ScriptKind.Find f name) (λ finds. map Find finds.numbers.items) middle after (Err stopped))
    one.files c.in_err-finds.ensures.answer in
    (subst (Answers (reads files (relax building name c.args.pieces.count)) task_of before after)
    (sym (handed_on _ stopped c.from_residual-in_err-finds.ensures.1))
    (second_stops (reads_index files building) (λ keys. reads_script ScriptKind.Find files name)
    (λ keys lines. gives (tasks.Task.relax keys (bounds_in building) c.args.pieces.count (questions_in lines)))
    (λ indexing. indexing.sorted.keys.items)
    (λ (finds : Finds). map Find finds.numbers.items)
    task_of before middle after c.in_ok-indexing.indexing stopped one.answer two))
