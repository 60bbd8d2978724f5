use Rattle.command_line.proofs.definition.relax_command.Goals as goal

pub returns : goal.returns
returns c =
    c.with.ensures _ _ _ (c.with-command.ensures _ _ _ c.index_command.ensures c.positional.ensures) c.number.ensures
