use Rattle.command_line.proofs.definition.with_script_commands.Goals as goal

pub returns : goal.returns
returns c =
    let box_is = c.in_ok-program.ensures _ _ _ c.in_ok-with_index_commands.ensures c.points_command.ensures in
    let near_is = c.in_ok-program-2.ensures _ _ _ box_is c.points_command-2.ensures in
    let replay_is = c.in_ok-program-3.ensures _ _ _ near_is c.replay_command.ensures in
    c.added-4.ensures _ _ _ replay_is c.mix_command.ensures
