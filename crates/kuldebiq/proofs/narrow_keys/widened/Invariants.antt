-- The keys so far are copied.
use Rattle.std.proofs.Common.{◌≡◌, take}
use Rattle.kuldebiq.proofs.narrow_keys.widened.Given as goal

abbrev pub invariant-loop-place : goal.invariant-loop-place
invariant-loop-place l = l.wide.items ≡ take l.place l.keys
