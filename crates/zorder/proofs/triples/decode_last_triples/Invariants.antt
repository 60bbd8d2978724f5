-- The codes before i are decoded, and what stood before `from` still does.
use Rattle.std.proofs.Common.{◌≡◌, ℕ, ◌<◌, ◌≤◌, get_or}
use Rattle.zorder.specs.Codes.{coordinate}
use Rattle.zorder.proofs.triples.decode_last_triples.Given as goal

abbrev pub invariant-loop-i : goal.invariant-loop-i
invariant-loop-i l = record {
  firsts_before : (k : ℕ) → k < l.fn.from → get_or l.firsts k 0 ≡ get_or l.fn.firsts k 0;
  seconds_before : (k : ℕ) → k < l.fn.from → get_or l.seconds k 0 ≡ get_or l.fn.seconds k 0;
  thirds_before : (k : ℕ) → k < l.fn.from → get_or l.thirds k 0 ≡ get_or l.fn.thirds k 0;
  firsts : (k : ℕ) → l.fn.from ≤ k → k < l.i → get_or l.firsts k 0 ≡ coordinate 3 0 (get_or l.codes k 0);
  seconds : (k : ℕ) → l.fn.from ≤ k → k < l.i → get_or l.seconds k 0 ≡ coordinate 3 1 (get_or l.codes k 0);
  thirds : (k : ℕ) → l.fn.from ≤ k → k < l.i → get_or l.thirds k 0 ≡ coordinate 3 2 (get_or l.codes k 0);
}
