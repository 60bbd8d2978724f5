use Rattle.std.proofs.Common.{◌<◌, ℕ, slice_index_or}
use Rattle.log_levels.specs.declared.update.Update.{Update}
use Rattle.log_levels.specs.Accepted.{IsPlain}
use Rattle.program.proofs.history.are_plain.Given as goal

abbrev pub invariant-loop-i : goal.invariant-loop-i
invariant-loop-i l = (k : ℕ) (d : Update) → k < l.i → IsPlain (slice_index_or l.updates k d)
