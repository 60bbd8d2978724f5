use Rattle.std.proofs.Common.{◌∙◌, ap₂}
use Rattle.commands.specs.Texts.Explain.{run_lines}
use Rattle.written.proofs.AppendLemmas.{BreaksOff-more}
use Rattle.written.proofs.WritingLemmas.{behind_as, broken, head_broken, head_written}
use Rattle.commands.proofs.explain.write_level.Goals as goal

pub returns-in_err-hand_over : goal.returns-in_err-hand_over
returns-in_err-hand_over g c =
    broken _ c.from_residual.result c.from_residual.ensures.1
    (BreaksOff-more _ (head_broken (c.as_bytes.ensures ∙ c.fill_level_line.ensures) c.in_err-hand_over.ensures))

pub returns : goal.returns
returns g c =
    behind_as c.write_runs.new.out c.write_runs.result
    (head_written (c.as_bytes.ensures ∙ c.fill_level_line.ensures) c.in_ok-hand_over.ensures)
    (ap₂ run_lines c.segments.ensures.segments c.point_count.ensures) c.write_runs.ensures
