-- So many places are filled by now as the next step is long, in steps of the coordinate.
use Rattle.std.proofs.Common.{◌≡◌, ℕ, ◌*◌, ◌-◌, ◌<◌}
use Rattle.bigmin.proofs.FillLemmas.{IsFilledFor}
use Rattle.bigmin.proofs.filled.filled_down.Given as goal

abbrev pub invariant-loop-shift : goal.invariant-loop-shift
invariant-loop-shift l = (count : ℕ) × (0 < count) × (l.shift ≡ count * l.d) × IsFilledFor l.d count l.bits l.filled

abbrev pub decreases-loop-shift : goal.decreases-loop-shift
decreases-loop-shift l = 64 - l.shift
