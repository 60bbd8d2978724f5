use Rattle.command_line.proofs.definition.counted_command.Goals as goal

pub returns : goal.returns
returns c = c.with_bounds.ensures _ _ (c.with-command.ensures _ _ _ c.new_command.ensures c.positional.ensures)
