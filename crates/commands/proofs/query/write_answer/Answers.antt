use Rattle.std.proofs.Common.{◌∙◌, ap, refl}
use Rattle.commands.specs.Texts.Query.{find_line, window_lines}
use Rattle.written.proofs.AppendLemmas.{BreaksOff-more}
use Rattle.written.proofs.WritingLemmas.{behind_as, broken, head_broken, head_written}
use Rattle.commands.proofs.query.write_answer.Goals as goal

pub returns-in_err-hand_over-clause-told : goal.returns-in_err-hand_over-clause-told
returns-in_err-hand_over-clause-told g c =
    let head_is = c.as_bytes.ensures ∙ c.fill_find_line.ensures ∙ ap (find_line c.args.asked.0) c.requires.position in (
      _,
      (window_lines c.fill_windows.new.into.items, c.fill_windows.ensures.tells, refl),
      broken _ c.from_residual.result c.from_residual.ensures.1
          (BreaksOff-more _ (head_broken head_is c.in_err-hand_over.ensures)),
    )

pub returns-clause-told : goal.returns-clause-told
returns-clause-told g c =
    let head_is = c.as_bytes.ensures ∙ c.fill_find_line.ensures ∙ ap (find_line c.args.asked.0) c.requires.position in (
      _,
      (window_lines c.fill_windows.new.into.items, c.fill_windows.ensures.tells, refl),
      behind_as c.write_windows.new.out c.write_windows.result (head_written head_is c.in_ok-hand_over.ensures)
          (ap window_lines c.deref.ensures.value) c.write_windows.ensures,
    )
