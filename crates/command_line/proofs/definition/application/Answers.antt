use Rattle.command_line.proofs.definition.application.Goals as goal

pub returns : goal.returns
returns c =
    let drill_is = c.in_ok-program.ensures _ _ _ c.in_ok-with_hint_commands.ensures c.drill_command.ensures in
    let save_is = c.in_ok-program-2.ensures _ _ _ drill_is c.index_command.ensures in
    c.added-3.ensures _ _ _ save_is c.check_command.ensures
