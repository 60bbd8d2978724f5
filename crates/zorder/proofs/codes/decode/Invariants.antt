-- The coordinates below c are read, and the others are still 0.
use Rattle.std.proofs.Common.{◌≡◌, ℕ, ◌<◌, ◌≤◌, length, slice_index}
use Rattle.zorder.specs.Codes.{coordinate}
use Rattle.zorder.proofs.codes.decode.Given as goal

abbrev pub invariant-loop-c : goal.invariant-loop-c
invariant-loop-c l = record {
  four : length l.coords ≡ 4;
  read : (k : ℕ) → k < l.c → slice_index l.coords k ≡ coordinate l.d k l.z;
  clear : (k : ℕ) → l.c ≤ k → slice_index l.coords k ≡ 0;
}
