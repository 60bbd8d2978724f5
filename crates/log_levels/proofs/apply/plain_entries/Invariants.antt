use Rattle.std.proofs.Common.{◌≡◌, map, take}
use Rattle.log_levels.specs.Kept.{plain_entry}
use Rattle.log_levels.proofs.apply.plain_entries.Given as goal

abbrev pub invariant-loop-update : goal.invariant-loop-update
invariant-loop-update l = l.entries.items ≡ map plain_entry (take l.update-index l.updates)
