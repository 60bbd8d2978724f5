use Rattle.command_line.proofs.definition.index_command.Goals as goal

pub returns : goal.returns
returns c = c.with.ensures _ _ _ c.counted_command.ensures c.flag.ensures
