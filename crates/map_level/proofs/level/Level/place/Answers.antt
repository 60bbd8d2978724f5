-- The keys of entries rise.
use Rattle.std.proofs.Common.{List, sym, subst}
use Rattle.std.specs.List.Sorted.{IsNonDecreasing}
use Rattle.tombstones.specs.declared.entry.Entry.{Entry}
use Rattle.map_level.specs.Levels.{level_keys}
use Rattle.map_level.proofs.LevelLemmas.{keys-never_fall}
use Rattle.map_level.proofs.level.Level.place.Goals as goal

pub position_near-requires-2-clause-never_falls : goal.position_near-requires-2-clause-never_falls
position_near-requires-2-clause-never_falls c =
    subst (λ (l : List Entry). IsNonDecreasing (level_keys l))
    (sym c.entries-entries.ensures.entries) (keys-never_fall c.args.self.now c.entries-entries.ensures.ascending)
