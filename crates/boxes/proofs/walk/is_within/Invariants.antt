-- Whether the coordinates below c lie between.
use Rattle.std.proofs.Common.{◌↔◌, ℕ, ◌<◌, ◌≤◌, IsTrue}
use Rattle.zorder.specs.Dilated.{dilated}
use Rattle.boxes.proofs.walk.is_within.Given as goal

abbrev pub invariant-loop-c : goal.invariant-loop-c
invariant-loop-c l =
    IsTrue l.within
    ↔ ((k : ℕ) → k < l.c → (dilated l.d k l.low ≤ dilated l.d k l.z) × (dilated l.d k l.z ≤ dilated l.d k l.high))
