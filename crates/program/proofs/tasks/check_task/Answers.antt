use Rattle.std.proofs.Common.{not, Ok, Err, sym, subst}
use Rattle.command_line.specs.Requests.{checked_of}
use Rattle.command_line.specs.Requests.Request.{check}
use Rattle.commands.specs.Tasks.{task_of}
use Rattle.index_file.specs.Spelling.{SavedIndex}
use Rattle.program.specs.Files.{Files}
use Rattle.program.specs.Stops.{Answers}
use Rattle.program.specs.Inputs.{reads, reads_keys, reads_saved, judges, then}
use Rattle.program.proofs.InputLemmas.{then_goes_on, second_stops, handed_on}
use Rattle.program.proofs.tasks.check_task.Goals as goal

-- a saved index, judged over the keys
pub returns-clause-answer : goal.returns-clause-answer
returns-clause-answer g c =
    let before = g.F.Shelf.faults c.args.files.now in
    let middle = g.F.Shelf.faults c.sorted_keys.new.files in
    let after = g.F.Shelf.faults c.saved_index.new.files in
    let files = g.F.Shelf.files c.args.files.now in
    let checking = checked_of c.args.checking in
    let keys = c.in_ok-keys.keys in
    let saved = c.in_ok-saved.saved in
    let one = c.in_ok-keys.ensures in
    let two = subst
    (λ (f : Files). Answers {B = SavedIndex} (reads_saved f checking.index) (λ read. read) middle after (Ok saved))
    one.files c.in_ok-saved.ensures.answer in
    (then_goes_on (reads_keys (not checking.narrow) files checking.file)
    (λ numbers. then (reads_saved files checking.index) (λ read. judges numbers read))
    (λ sorted. sorted.keys.items) task_of before after middle keys c.judged.result one.answer
    (then_goes_on (reads_saved files checking.index) (λ read. judges keys.keys.items read)
    (λ read. read) task_of middle after after saved c.judged.result two (c.judged.ensures after)))

pub returns-in_err-saved-clause-answer : goal.returns-in_err-saved-clause-answer
returns-in_err-saved-clause-answer g c =
    let before = g.F.Shelf.faults c.args.files.now in
    let middle = g.F.Shelf.faults c.sorted_keys.new.files in
    let after = g.F.Shelf.faults c.saved_index.new.files in
    let files = g.F.Shelf.files c.args.files.now in
    let checking = checked_of c.args.checking in
    let stopped = c.in_err-saved.field-0.0 in
    let one = c.in_ok-keys.ensures in
    let two = subst (λ (f : Files).
    Answers {B = SavedIndex} (reads_saved f checking.index) (λ read. read) middle after (Err stopped))
    one.files c.in_err-saved.ensures.answer in
    (subst (Answers (reads files (check checking)) task_of before after)
    (sym (handed_on _ stopped c.from_residual-in_err-saved.ensures.1))
    (second_stops (reads_keys (not checking.narrow) files checking.file) (λ numbers. reads_saved files checking.index)
    (λ numbers read. judges numbers read) (λ sorted. sorted.keys.items)
    (λ (read : SavedIndex). read) task_of before middle after c.in_ok-keys.keys stopped one.answer two))
