-- The coordinates so far are those of the point.
use Rattle.std.proofs.Common.{◌≡◌, ℕ, ◌<◌, length, slice_index}
use Rattle.kuldebiq.proofs.near_calls.centre_of.Given as goal

abbrev pub invariant-loop-c : goal.invariant-loop-c
invariant-loop-c l = record {
  len : length l.coords ≡ 4;
  same : (c : ℕ) → c < l.c → slice_index l.coords c ≡ slice_index l.point c;
}
