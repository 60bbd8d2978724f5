use Rattle.std.proofs.Common.{List, take, subst, sym, arith}
use Rattle.std.proofs.lemmas.List.{take_more}
use Rattle.tombstones.specs.declared.entry.Entry.{Entry}
use Rattle.map_level.specs.Levels.{last_at}
use Rattle.map_level.proofs.LevelLemmas.{no_entry}
use Rattle.log_levels.specs.Kept.{IsGreatestBelow}
use Rattle.log_levels.proofs.descent.last_below.Goals as goal

pub loop-entry-preserved : goal.loop-entry-preserved
loop-entry-preserved c =
    subst (λ (list : List Entry). IsGreatestBelow (last_at list) c.args.end c.last_with-last.result)
    (sym (take_more c.args.entries.now c.loop-entry.entry-index no_entry (omega arith)))
    (c.last_with-last.ensures (take c.loop-entry.entry-index c.args.entries.now) c.loop-entry.invariant)
