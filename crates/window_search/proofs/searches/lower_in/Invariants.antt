use Rattle.std.proofs.Common.{◌+◌, ◌-◌, ◌<◌, ◌≤◌}
use Rattle.window_search.specs.Searches.{lb}
use Rattle.window_search.proofs.Halving.{IsHalved}
use Rattle.window_search.proofs.searches.lower_in.Given as goal

-- the lower bound is one of the `count` places from `bound` on
abbrev pub invariant-loop-count : goal.invariant-loop-count
invariant-loop-count g l = record {
  some : 1 ≤ l.count;
  within : l.bound + l.count ≤ l.hi + 1;
  first : l.lo ≤ l.bound;
  from : l.bound ≤ lb l.keys l.q;
  to : lb l.keys l.q < l.bound + l.count;
  halved : IsHalved l.fn.steps l.steps (l.hi - l.lo + 1) l.count;
}

abbrev pub decreases-loop-count : goal.decreases-loop-count
decreases-loop-count g l = l.count
