use Rattle.written.proofs.AppendLemmas.{BreaksOff-more}
use Rattle.written.proofs.WritingLemmas.{behind, broken}
use Rattle.map_commands.proofs.told.write_closing.Goals as goal

pub returns-in_err-write_lasts : goal.returns-in_err-write_lasts
returns-in_err-write_lasts g c =
    broken _ c.from_residual.result c.from_residual.ensures.1 (BreaksOff-more _ c.in_err-write_lasts.ensures)

pub returns : goal.returns
returns g c = behind c.write_ends.new.out _ c.write_ends.result c.in_ok-write_lasts.ensures c.write_ends.ensures
