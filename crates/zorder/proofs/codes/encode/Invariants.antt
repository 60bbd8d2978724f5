-- The coordinates below c have their places in the code, and the places of the others are clear.
use Rattle.std.proofs.Common.{◌≡◌, ℕ, ◌+◌, ◌*◌, ◌<◌, ◌≤◌, slice_index}
use Rattle.std.specs.Int.{bit_at}
use Rattle.zorder.proofs.codes.encode.Given as goal

abbrev pub invariant-loop-c : goal.invariant-loop-c
invariant-loop-c l = record {
  placed : (b k : ℕ) → k < l.c → bit_at l.code (b * l.d + k) ≡ bit_at (slice_index l.coords k) b;
  clear : (b k : ℕ) → l.c ≤ k → k < l.d → bit_at l.code (b * l.d + k) ≡ 0;
}
