use Rattle.command_line.proofs.definition.batch_command.Goals as goal

pub returns : goal.returns
returns c =
    let script_is = c.with-command.ensures _ _ _ c.new_command.ensures c.positional.ensures in
    c.with.ensures _ _ _ (c.with-command-2.ensures _ _ _ script_is c.number.ensures) c.number-2.ensures
