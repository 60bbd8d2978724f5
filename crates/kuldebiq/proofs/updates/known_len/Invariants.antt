-- Each one so far is an update.
use Rattle.std.proofs.Common.{◌<◌, ℕ, slice_index_or}
use Rattle.kuldebiq.specs.declared.updates.UpdateParts.{UpdateParts}
use Rattle.kuldebiq.specs.Updates.{IsUpdate}
use Rattle.kuldebiq.proofs.updates.known_len.Given as goal

abbrev pub invariant-loop-i : goal.invariant-loop-i
invariant-loop-i l = (k : ℕ) (d : UpdateParts) → k < l.i → IsUpdate (slice_index_or l.parts k d)
