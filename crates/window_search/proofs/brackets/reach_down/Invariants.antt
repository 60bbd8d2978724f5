use Rattle.std.proofs.Common.{◌+◌, ◌-◌, ◌≤◌, ◌<◌, length, slice_index}
use Rattle.window_search.proofs.Reaching.{IsDoubled}
use Rattle.window_search.proofs.brackets.reach_down.Given as goal

-- the key at `high` isn't below q, and so far the search has come by steps that double
abbrev pub invariant-loop-high : goal.invariant-loop-high
invariant-loop-high g l = record {
  within : l.high ≤ l.from;
  at : l.high < length l.keys → l.q ≤ slice_index l.keys l.high;
  doubled : IsDoubled (l.from - l.high + 1) l.fn.steps l.steps;
}

abbrev pub decreases-loop-high : goal.decreases-loop-high
decreases-loop-high g l = l.high
