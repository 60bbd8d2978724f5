use Rattle.std.proofs.Common.{◌≡◌, ◌-◌, ◌≤◌, ◌<◌, length, slice_index}
use Rattle.window_search.proofs.Reaching.{IsDoubled}
use Rattle.window_search.proofs.brackets.reach_up.Given as goal

-- the key before `low` is below q, and so far the search has come by steps that double
abbrev pub invariant-loop-low : goal.invariant-loop-low
invariant-loop-low g l = record {
  count : l.count ≡ length l.keys;
  behind : l.from < l.low;
  within : l.low ≤ l.count;
  before : slice_index l.keys (l.low - 1) < l.q;
  doubled : IsDoubled (l.low - l.from) l.fn.steps l.steps;
}

abbrev pub decreases-loop-low : goal.decreases-loop-low
decreases-loop-low g l = l.count - l.low
