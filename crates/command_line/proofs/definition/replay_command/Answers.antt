use Rattle.command_line.proofs.definition.replay_command.Goals as goal

pub returns : goal.returns
returns c =
    c.with-2.ensures _ _ _ (c.with.ensures _ _ _ c.batch_command.ensures c.number-readers.ensures) c.workers.ensures
