-- The pairs so far are written.
use Rattle.std.proofs.Common.{◌≡◌, length, map, take}
use Rattle.kuldebiq.specs.Pairs.{pair_of}
use Rattle.kuldebiq.proofs.range_calls.write_pairs.Given as goal

abbrev pub invariant-loop-i : goal.invariant-loop-i
invariant-loop-i l = (length l.room ≡ length l.found) × (take l.i l.room ≡ map pair_of (take l.i l.found))
