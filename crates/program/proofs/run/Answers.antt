use Rattle.std.proofs.Common.{inl, inr, ap, map, refl, Ok, Err}
use Rattle.std.specs.String.{string_bytes}
use Rattle.program.specs.declared.refusal.Refusal.TheVariants.{Usage}
use Rattle.program.specs.declared.status.Status.TheVariants as ends
use Rattle.command_line.specs.Requests.{asked_of}
use Rattle.commands.specs.Tasks.{task_of}
use Rattle.program.specs.Outcomes.Defines.{no_command, asked}
use Rattle.program.proofs.OutcomeLemmas.{it_ends, refused_ends, stopped_cause, stopped_ends}
use Rattle.program.proofs.run.Goals as goal

pub returns-in-Ok-write-clause-done : goal.returns-in-Ok-write-clause-done
returns-in-Ok-write-clause-done g c done =
    let text = c.in-Ok-write.ensures in (
      text.0,
      (
        task_of c.in-Ok-read.task,
        asked (asked_of c.in-Ok.request) _ c.in-Ok.ensures.asks c.in-Ok-read.ensures.answer.ok,
        text.1,
      ),
      text.2,
    )

pub returns-in-Ok-write-clause-wherever : goal.returns-in-Ok-write-clause-wherever
returns-in-Ok-write-clause-wherever g c some defined defines =
    inl (it_ends _ (map string_bytes c.args.words.now)
    (asked_of c.in-Ok.request) (Ok (task_of c.in-Ok-read.task)) defined ends.Done some
    (c.in-Ok.ensures.asks, c.in-Ok-read.ensures.answer.ok) (inl refl) defines)

pub returns-in-Err-WriteFault-clause-broke_off : goal.returns-in-Err-WriteFault-clause-broke_off
returns-in-Err-WriteFault-clause-broke_off g c broke =
    let text = rw c.in-Err-WriteFault.field-0-is at c.in-Err-WriteFault.ensures in (
      text.0,
      (
        task_of c.in-Ok-read.task,
        asked (asked_of c.in-Ok.request) _ c.in-Ok.ensures.asks c.in-Ok-read.ensures.answer.ok,
        text.1,
      ),
      text.2,
    )

pub returns-in-Err-WriteFault-clause-wherever : goal.returns-in-Err-WriteFault-clause-wherever
returns-in-Err-WriteFault-clause-wherever g c some defined defines =
    inl (it_ends _ (map string_bytes c.args.words.now)
    (asked_of c.in-Ok.request) (Ok (task_of c.in-Ok-read.task)) defined ends.WriteFault some
    (c.in-Ok.ensures.asks, c.in-Ok-read.ensures.answer.ok) (inr refl) defines)

pub returns-in-Err-Refused-clause-refused : goal.returns-in-Err-Refused-clause-refused
returns-in-Err-Refused-clause-refused g c =
    let read = rw c.in-Err-Refused.field-0-is at c.in-Err-Refused.ensures in
    inr (inr (inr (
      c.in-Err-Refused.refusal,
      c.refuse-in-Err-Refused.ensures.status,
      stopped_cause _ (map string_bytes c.args.words.now)
          (asked_of c.in-Ok.request) _ _ c.in-Err-Refused.refusal c.in-Ok.ensures.asks read.answer.stopped,
      c.refuse-in-Err-Refused.ensures.line,
    )))

pub returns-in-Err-Refused-clause-wherever : goal.returns-in-Err-Refused-clause-wherever
returns-in-Err-Refused-clause-wherever g c some defined defines =
    let read = rw c.in-Err-Refused.field-0-is at c.in-Err-Refused.ensures in
    rw c.refuse-in-Err-Refused.ensures.status
    (stopped_ends _ (map string_bytes c.args.words.now)
    (asked_of c.in-Ok.request) _ _ c.in-Err-Refused.refusal defined c.in-Ok.ensures.asks
    read.answer.stopped some defines)

pub returns-in-Err-Usage-clause-refused : goal.returns-in-Err-Usage-clause-refused
returns-in-Err-Usage-clause-refused g c =
    inr (inr (inr (
      Usage,
      c.refuse.ensures.status,
      no_command (c.in-Err-Usage.ensures.usage (ap Err c.in-Err-Usage.field-0-is)),
      c.refuse.ensures.line,
    )))

pub returns-in-Err-Usage-clause-wherever : goal.returns-in-Err-Usage-clause-wherever
returns-in-Err-Usage-clause-wherever g c some defined defines =
    inl (refused_ends _ (map string_bytes c.args.words.now) defined c.refuse.result
    (c.in-Err-Usage.ensures.usage (ap Err c.in-Err-Usage.field-0-is))
    c.refuse.ensures.status defines)
