-- The positions below `from` are those of the questions.
use Rattle.std.proofs.Common.{◌≡◌, ◌⊎◌, ℕ, ◌-◌, ◌<◌, ◌≤◌, length, slice_index, vec_capacity}
use Rattle.window_search.specs.Searches.{lb}
use Rattle.kuldebiq.proofs.many.in_blocks.Given as goal

abbrev pub invariant-loop-from : goal.invariant-loop-from
invariant-loop-from l =
    (length l.positions ≡ length l.questions)
    × ((length l.questions ≤ vec_capacity l.found) ⊎ (4096 ≤ vec_capacity l.found))
    × ((j : ℕ) → j < l.from → slice_index l.positions j ≡ lb l.index.keys (slice_index l.questions j))

abbrev pub decreases-loop-from : goal.decreases-loop-from
decreases-loop-from l = length l.questions - l.from
