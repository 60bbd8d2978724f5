-- The entries of the pairs so far stand behind those of the list, and there is room for the others.
use Rattle.std.proofs.Common.{◌≡◌, ◌+◌, ◌++◌, take, vec_len, vec_capacity}
use Rattle.log_levels.specs.Kept.{entries_put}
use Rattle.log_levels.proofs.load.put_each.Given as goal

abbrev pub invariant-loop-pair : goal.invariant-loop-pair
invariant-loop-pair l = (l.into.items ≡ l.initial.into.items ++ entries_put (take l.pair-index l.pairs))
    × (vec_len l.into ≡ vec_len l.initial.into + l.pair-index) × (vec_capacity l.into ≡ vec_capacity l.initial.into)
