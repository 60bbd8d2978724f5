use Rattle.std.proofs.Common.{◌≡◌, ℕ, List, IsSome}
use Rattle.std.specs.Int.{bit_at}
use Rattle.tombstones.specs.declared.entry.Entry.{Entry}
use Rattle.log_levels.specs.Shapes.{IsCutOf, level_of}
use Rattle.log_levels.proofs.OccupiedLemmas.{IsReached}
use Rattle.log_levels.proofs.log_map.LogMap.value_in_levels.Given as goal

abbrev pub invariant-loop-rest : goal.invariant-loop-rest
invariant-loop-rest l = record {
  taken : (i : ℕ) → bit_at l.rest i ≡ 1 → IsSome (level_of l.self i);
  reached : (entries : List Entry) → IsCutOf l.self entries → IsReached entries l.key l.rest;
}

abbrev pub decreases-loop-rest : goal.decreases-loop-rest
decreases-loop-rest l = l.rest
