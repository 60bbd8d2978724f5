-- The keys so far were looked for.
use Rattle.std.proofs.Common.{◌≡◌, length, map, take}
use Rattle.map_level.specs.Levels.{last_at}
use Rattle.log_levels.specs.declared.many.Search.TheVariants.{Open}
use Rattle.log_levels.specs.Kept.{searched}
use Rattle.log_levels.proofs.log_map.LogMap.search_buffer.Given as goal

abbrev pub invariant-loop-i : goal.invariant-loop-i
invariant-loop-i l = (length l.searches ≡ length l.keys)
    × (take l.i l.searches ≡ map (λ key. searched (last_at l.self.buffer key) Open) (take l.i l.keys))
