use Rattle.std.proofs.Common.{◌^◌, ◌<◌, length}
use Rattle.log_levels.specs.Kept.{AreHeads}
use Rattle.log_levels.proofs.log_map.LogMap.heads.Given as goal

-- the heads of the levels so far
abbrev pub invariant-loop-rest : goal.invariant-loop-rest
invariant-loop-rest l = record {
  within : l.rest < 2 ^ length l.self.levels;
  heads : AreHeads l.self l.places l.rest l.heads.items;
}

abbrev pub decreases-loop-rest : goal.decreases-loop-rest
decreases-loop-rest l = l.rest
