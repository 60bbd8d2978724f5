use Rattle.command_line.proofs.definition.find_command.Goals as goal

pub returns : goal.returns
returns c =
    let file_is = c.with-command.ensures _ _ _ c.new_command.ensures c.positional.ensures in
    let hints_is = c.with-command-2.ensures _ _ _ file_is c.positional-2.ensures in
    c.with.ensures _ _ _ (c.with-command-3.ensures _ _ _ hints_is c.positional-3.ensures) c.flag.ensures
