use Rattle.command_line.proofs.definition.mix_command.Goals as goal

pub returns : goal.returns
returns c = c.with.ensures _ _ _ c.replay_command.ensures c.number-senders.ensures
