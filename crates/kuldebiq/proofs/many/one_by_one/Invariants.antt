-- The positions below `i` are those of the questions.
use Rattle.std.proofs.Common.{◌≡◌, ℕ, ◌<◌, length, slice_index}
use Rattle.window_search.specs.Searches.{lb}
use Rattle.kuldebiq.proofs.many.one_by_one.Given as goal

abbrev pub invariant-loop-i : goal.invariant-loop-i
invariant-loop-i l =
    (length l.positions ≡ length l.questions)
    × ((j : ℕ) → j < l.i → slice_index l.positions j ≡ lb l.index.keys (slice_index l.questions j))
