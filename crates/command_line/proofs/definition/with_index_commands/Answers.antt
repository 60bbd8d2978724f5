use Rattle.command_line.proofs.definition.with_index_commands.Goals as goal

pub returns : goal.returns
returns c =
    let build_is = c.in_ok-program.ensures _ _ _ c.bare_program.ensures c.index_command.ensures in
    let explain_is = c.in_ok-program-2.ensures _ _ _ build_is c.index_command-2.ensures in
    let query_is = c.in_ok-program-3.ensures _ _ _ explain_is c.query_command.ensures in
    c.added-4.ensures _ _ _ query_is c.relax_command.ensures
