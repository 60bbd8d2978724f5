use Rattle.std.proofs.Common.{List, Vec, Global, Ok, Err, sym, subst, arith}
use Rattle.pgm_script.specs.declared.script.ScriptKind.{ScriptKind}
use Rattle.pgm_script.specs.declared.script.ScriptLine.{ScriptLine}
use Rattle.command_line.specs.Requests.{replayed_of}
use Rattle.command_line.specs.Requests.Request.{mix}
use Rattle.map_commands.specs.declared.history.Mixing.{Mixing}
use Rattle.commands.specs.declared.task.Task.TheVariants as declared_task
use Rattle.commands.specs.Tasks.{mix_of}
use Rattle.commands.specs.Tasks.{task_of}
use Rattle.program.specs.Stops.{Answers}
use Rattle.program.specs.Inputs.{reads, reads_script, reads_mixing}
use Rattle.program.proofs.InputLemmas.{then_goes_on, stopped_alike, handed_on}
use Rattle.program.proofs.tasks.mix_task.Goals as goal

-- and where senders send the updates
pub returns-in_err-mixing-clause-answer : goal.returns-in_err-mixing-clause-answer
returns-in_err-mixing-clause-answer g c =
    let before = g.F.Shelf.faults c.args.files.now in
    let after = g.F.Shelf.faults c.script_lines.new.files in
    let files = g.F.Shelf.files c.args.files.now in
    let replaying = replayed_of c.args.replaying in
    let stopped = c.in_err-mixing.field-0.0 in
    let two = subst (λ (lines : List ScriptLine).
    Answers {B = Mixing} (reads_mixing replaying c.args.senders.count lines) mix_of after after (Err stopped))
    c.deref.ensures.value (c.in_err-mixing.ensures after) in
    (subst (Answers (reads files (mix replaying c.args.senders.count)) task_of before after)
    (sym (handed_on _ stopped c.from_residual-in_err-mixing.ensures.1))
    (then_goes_on (reads_script ScriptKind.Mix files replaying.script)
    (reads_mixing replaying c.args.senders.count) (λ (lines : Vec ScriptLine Global). lines.items) task_of
    before after after c.in_ok-lines.lines (Err stopped) c.in_ok-lines.ensures.answer
    (stopped_alike (reads_mixing replaying c.args.senders.count c.in_ok-lines.lines.items)
    mix_of task_of after after stopped two)))

pub returns-clause-answer : goal.returns-clause-answer
returns-clause-answer g c =
    let before = g.F.Shelf.faults c.args.files.now in
    let after = g.F.Shelf.faults c.script_lines.new.files in
    let files = g.F.Shelf.files c.args.files.now in
    let replaying = replayed_of c.args.replaying in
    let mixing = c.in_ok-mixing.mixing in
    let two = subst (λ (lines : List ScriptLine).
    Answers {B = Mixing} (reads_mixing replaying c.args.senders.count lines) mix_of after after (Ok mixing))
    c.deref.ensures.value (c.in_ok-mixing.ensures after) in
    (then_goes_on (reads_script ScriptKind.Mix files replaying.script)
    (reads_mixing replaying c.args.senders.count) (λ (lines : Vec ScriptLine Global). lines.items) task_of
    before after after c.in_ok-lines.lines (Ok (declared_task.Mix mixing)) c.in_ok-lines.ensures.answer
    (record {
      ok = two.ok;
      unfaulted = two.unfaulted;
      stopped = tt;
      faulted = λ rose. absurd (omega (arith, rose));
      never_falls = two.never_falls;
    }))
