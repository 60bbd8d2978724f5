use Rattle.command_line.proofs.definition.drill_command.Goals as goal

pub returns : goal.returns
returns c =
    let number_is = c.with-command.ensures _ _ _ c.new_command.ensures c.positional_number.ensures in
    c.with_bounds.ensures _ _ (c.with-command-2.ensures _ _ _ number_is c.positional_number-2.ensures)
