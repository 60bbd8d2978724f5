use Rattle.std.proofs.Common.{◌≡◌, ◌%◌, ℕ, ◌<◌, ◌≤◌, max}
use Rattle.std.specs.Int.{bit_at}
use Rattle.zorder.specs.Dilated.{dilated}
use Rattle.bigmin.proofs.jump.least_from.Given as goal

-- the bits of the coordinates below c
abbrev pub invariant-loop-c : goal.invariant-loop-c
invariant-loop-c l = record {
  made : (i : ℕ) →
      i % l.d < l.c → bit_at l.code i ≡ bit_at (max (dilated l.d (i % l.d) l.first) (dilated l.d (i % l.d) l.low)) i;
  others : (i : ℕ) → l.c ≤ i % l.d → bit_at l.code i ≡ 0;
}
