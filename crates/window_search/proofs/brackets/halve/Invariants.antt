use Rattle.std.proofs.Common.{◌+◌, ◌-◌, ◌≤◌}
use Rattle.window_search.specs.Brackets.{HoldsBracket}
use Rattle.window_search.proofs.Halving.{IsHalved}
use Rattle.window_search.proofs.brackets.halve.Given as goal

-- a bracket is at `place` or one of the `more` places after it
abbrev pub invariant-loop-more : goal.invariant-loop-more
invariant-loop-more g l = record {
  from : l.low ≤ l.place;
  to : l.place + l.more ≤ l.high;
  held : HoldsBracket l.keys l.q l.place (l.place + l.more);
  halved : IsHalved l.fn.steps l.steps (l.high - l.low + 1) (l.more + 1);
}

abbrev pub decreases-loop-more : goal.decreases-loop-more
decreases-loop-more g l = l.more
