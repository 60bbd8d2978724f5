use Rattle.std.proofs.Common.{◌∙◌}
use Rattle.written.proofs.AppendLemmas.{BreaksOff-more}
use Rattle.written.proofs.WritingLemmas.{behind, broken, head_broken, head_written}
use Rattle.map_commands.proofs.told.write_lines.Goals as goal

pub returns-in_err-hand_over : goal.returns-in_err-hand_over
returns-in_err-hand_over g c =
    broken _ c.from_residual.result c.from_residual.ensures.1
    (BreaksOff-more _ (head_broken (c.as_bytes.ensures ∙ c.fill_count.ensures) c.in_err-hand_over.ensures))

pub returns : goal.returns
returns g c =
    behind c.write_behind.new.out _ c.write_behind.result
    (head_written (c.as_bytes.ensures ∙ c.fill_count.ensures) c.in_ok-hand_over.ensures) c.write_behind.ensures
