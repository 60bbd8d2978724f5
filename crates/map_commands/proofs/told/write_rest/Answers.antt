use Rattle.written.proofs.AppendLemmas.{BreaksOff-more}
use Rattle.written.proofs.WritingLemmas.{behind, broken}
use Rattle.map_commands.proofs.told.write_rest.Goals as goal

pub returns-in_err-write_read : goal.returns-in_err-write_read
returns-in_err-write_read g c =
    broken _ c.from_residual.result c.from_residual.ensures.1 (BreaksOff-more _ c.in_err-write_read.ensures)

pub returns : goal.returns
returns g c = behind c.write_closing.new.out _ c.write_closing.result c.in_ok-write_read.ensures c.write_closing.ensures
