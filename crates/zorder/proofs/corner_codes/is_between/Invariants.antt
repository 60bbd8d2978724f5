-- The coordinates below c lie between.
use Rattle.std.proofs.Common.{ℕ, ◌<◌, ◌≤◌}
use Rattle.zorder.specs.Dilated.{dilated}
use Rattle.zorder.proofs.corner_codes.is_between.Given as goal

abbrev pub invariant-loop-c : goal.invariant-loop-c
invariant-loop-c l =
    (k : ℕ) → k < l.c → (dilated l.d k l.low ≤ dilated l.d k l.z) × (dilated l.d k l.z ≤ dilated l.d k l.high)
