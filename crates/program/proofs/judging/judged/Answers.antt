-- The check is made over the points of the keys.
use Rattle.std.proofs.Common.{◌∙◌, ℕ, length, ap, refl, subst, sym}
use Rattle.key_points.specs.KeyPoints.{xs_of, ys_of}
use Rattle.commands.specs.Tasks.{task_of}
use Rattle.commands.specs.Tasks as tasks
use Rattle.program.specs.Inputs.{judges}
use Rattle.program.specs.Refusals.{refusal_of_check}
use Rattle.program.specs.Stops.{Answers, stop_of_refusal}
use Rattle.program.proofs.InputLemmas.{handed_on}
use Rattle.program.proofs.SavedInputs.{judged_right, judged_stopped}
use Rattle.program.proofs.judging.judged.Goals as goal

pub returns : goal.returns
returns c = λ faults.
    let saved = c.args.saved.now in
    let right = rw (
      c.points.ensures.xs ∙ ap xs_of (c.in_ok-own.ensures ∙ c.deref.ensures.value),
      c.points.ensures.ys ∙ ap ys_of (c.in_ok-own.ensures ∙ c.deref.ensures.value),
    )
    at c.in_ok-check.ensures.right in
    judged_right task_of c.args.sorted.keys.items saved _ c.args.sorted.never_falls right
    (ap (λ (n : ℕ). tasks.Task.check n c.run_count.result) c.levels.ensures
    ∙ ap (λ (n : ℕ). tasks.Task.check (length saved.levels) n) c.run_count.ensures) faults

pub returns-in_err-check : goal.returns-in_err-check
returns-in_err-check c = λ faults.
    let keys = c.args.sorted.keys.items in
    let fault = c.in_err-check.field-0.0 in
    let stopped = stop_of_refusal (refusal_of_check fault) in
    let cause = rw (
      c.points.ensures.xs ∙ ap xs_of (c.in_ok-own.ensures ∙ c.deref.ensures.value),
      c.points.ensures.ys ∙ ap ys_of (c.in_ok-own.ensures ∙ c.deref.ensures.value),
    )
    at c.in_err-check.ensures.wrong in
    subst (Answers (judges keys c.args.saved.now) task_of faults faults)
    (sym (handed_on _ stopped c.from_residual-in_err-check.ensures.1))
    (judged_stopped task_of keys c.args.saved.now fault stopped c.args.sorted.never_falls refl cause faults)
