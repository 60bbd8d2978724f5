use Rattle.command_line.proofs.definition.with_hint_commands.Goals as goal

pub returns : goal.returns
returns c =
    let hints_is = c.in_ok-program.ensures _ _ _ c.in_ok-with_script_commands.ensures c.hints_command.ensures in
    c.added-2.ensures _ _ _ hints_is c.find_command.ensures
