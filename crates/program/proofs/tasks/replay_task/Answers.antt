use Rattle.std.proofs.Common.{List, Vec, Global, Ok, Err, sym, subst, arith}
use Rattle.pgm_script.specs.declared.script.ScriptKind.{ScriptKind}
use Rattle.pgm_script.specs.declared.script.ScriptLine.{ScriptLine}
use Rattle.command_line.specs.Requests.{replayed_of}
use Rattle.command_line.specs.Requests.Request.{replay}
use Rattle.map_commands.specs.declared.history.History.{History}
use Rattle.commands.specs.declared.task.Task.TheVariants as declared_task
use Rattle.commands.specs.Tasks.{replay_of}
use Rattle.commands.specs.Tasks.{task_of}
use Rattle.program.specs.Stops.{Answers}
use Rattle.program.specs.Inputs.{reads, reads_script, reads_history}
use Rattle.program.proofs.InputLemmas.{then_goes_on, stopped_alike, handed_on}
use Rattle.program.proofs.tasks.replay_task.Goals as goal

-- what a script of updates and questions asks for
pub returns-in_err-history-clause-answer : goal.returns-in_err-history-clause-answer
returns-in_err-history-clause-answer g c =
    let before = g.F.Shelf.faults c.args.files.now in
    let after = g.F.Shelf.faults c.script_lines.new.files in
    let files = g.F.Shelf.files c.args.files.now in
    let replaying = replayed_of c.args.replaying in
    let stopped = c.in_err-history.field-0.0 in
    let two = subst (λ (lines : List ScriptLine).
    Answers {B = History} (reads_history replaying lines) replay_of after after (Err stopped))
    c.deref.ensures.value (c.in_err-history.ensures after) in
    (subst (Answers (reads files (replay replaying)) task_of before after)
    (sym (handed_on _ stopped c.from_residual-in_err-history.ensures.1))
    (then_goes_on (reads_script ScriptKind.Replay files replaying.script)
    (reads_history replaying) (λ (lines : Vec ScriptLine Global). lines.items) task_of
    before after after c.in_ok-lines.lines (Err stopped) c.in_ok-lines.ensures.answer
    (stopped_alike (reads_history replaying c.in_ok-lines.lines.items) replay_of task_of after after stopped two)))

pub returns-clause-answer : goal.returns-clause-answer
returns-clause-answer g c =
    let before = g.F.Shelf.faults c.args.files.now in
    let after = g.F.Shelf.faults c.script_lines.new.files in
    let files = g.F.Shelf.files c.args.files.now in
    let replaying = replayed_of c.args.replaying in
    let history = c.in_ok-history.history in
    let two = subst (λ (lines : List ScriptLine).
    Answers {B = History} (reads_history replaying lines) replay_of after after (Ok history))
    c.deref.ensures.value (c.in_ok-history.ensures after) in
    (then_goes_on (reads_script ScriptKind.Replay files replaying.script)
    (reads_history replaying) (λ (lines : Vec ScriptLine Global). lines.items) task_of
    before after after c.in_ok-lines.lines (Ok (declared_task.Replay history)) c.in_ok-lines.ensures.answer
    (record {
      ok = two.ok;
      unfaulted = two.unfaulted;
      stopped = tt;
      faulted = λ rose. absurd (omega (arith, rose));
      never_falls = two.never_falls;
    }))
