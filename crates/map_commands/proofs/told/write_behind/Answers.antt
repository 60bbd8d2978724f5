use Rattle.written.proofs.AppendLemmas.{BreaksOff-more}
use Rattle.written.proofs.WritingLemmas.{behind, broken}
use Rattle.map_commands.proofs.told.write_behind.Goals as goal

pub returns-in_err-write_senders : goal.returns-in_err-write_senders
returns-in_err-write_senders g c =
    broken _ c.from_residual.result c.from_residual.ensures.1 (BreaksOff-more _ c.in_err-write_senders.ensures)

pub returns : goal.returns
returns g c = behind c.write_rest.new.out _ c.write_rest.result c.in_ok-write_senders.ensures c.write_rest.ensures
