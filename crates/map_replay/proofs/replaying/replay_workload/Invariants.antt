-- the slots are those of the map that was started
use Rattle.map_replay.proofs.replaying.replay_workload.Given as goal

abbrev pub ghosts-replay_on : goal.ghosts-replay_on
ghosts-replay_on g a = record { origin = a.writer.origin }
