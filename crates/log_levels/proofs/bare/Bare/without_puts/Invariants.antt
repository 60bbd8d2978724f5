-- None of the entries so far puts a key of the stretch.
use Rattle.std.proofs.Common.{◌≡◌, ℕ, None, take}
use Rattle.map_level.specs.Levels.{last_at}
use Rattle.log_levels.specs.Kept.{IsIn, value_of}
use Rattle.log_levels.proofs.bare.Bare.without_puts.Given as goal

abbrev pub invariant-loop-entry : goal.invariant-loop-entry
invariant-loop-entry l = (key : ℕ) →
    IsIn l.bare key → IsIn l.initial.bare key × (value_of (last_at (take l.entry-index l.entries) key) ≡ None)
