-- The entries so far stand behind those of the list, and there is room for the others.
use Rattle.std.proofs.Common.{◌≡◌, ◌+◌, ◌++◌, take, vec_len, vec_capacity}
use Rattle.log_levels.proofs.growth.push_each.Given as goal

abbrev pub invariant-loop-entry : goal.invariant-loop-entry
invariant-loop-entry l = (l.into.items ≡ l.initial.into.items ++ take l.entry-index l.new)
    × (vec_len l.into ≡ vec_len l.initial.into + l.entry-index) × (vec_capacity l.into ≡ vec_capacity l.initial.into)
