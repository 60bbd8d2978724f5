use Rattle.written.proofs.AppendLemmas.{BreaksOff-more}
use Rattle.written.proofs.WritingLemmas.{behind, broken}
use Rattle.commands.proofs.build.write_index.Goals as goal

pub returns-in_err-write_keys : goal.returns-in_err-write_keys
returns-in_err-write_keys g c =
    broken _ c.from_residual.result c.from_residual.ensures.1 (BreaksOff-more _ c.in_err-write_keys.ensures)

pub returns : goal.returns
returns g c = behind c.write_levels.new.out _ c.write_levels.result c.in_ok-write_keys.ensures c.write_levels.ensures
