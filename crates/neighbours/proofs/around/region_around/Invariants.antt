-- The ends of the intervals so far.
use Rattle.std.proofs.Common.{◌≡◌, ℕ, ◌+◌, ◌-◌, ◌<◌, length, get_or, min}
use Rattle.neighbours.proofs.around.region_around.Given as goal

abbrev pub invariant-loop-c : goal.invariant-loop-c
invariant-loop-c l = record {
  four : length l.low ≡ 4;
  four' : length l.high ≡ 4;
  lows : (k : ℕ) → k < l.c → get_or l.low k 0 ≡ get_or l.centre.coords k 0 - l.reach;
  highs : (k : ℕ) → k < l.c → get_or l.high k 0 ≡ min (get_or l.centre.coords k 0 + l.reach) l.limit;
}
