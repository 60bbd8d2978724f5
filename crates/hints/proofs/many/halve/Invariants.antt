use Rattle.std.proofs.Common.{◌≡◌, ◌+◌, ◌-◌, ◌/◌}
use Rattle.std.specs.List.Sorted.{IsNonDecreasing}
use Rattle.hints.specs.Lookups.{IsSameOutside}
use Rattle.hints.specs.Many.{HaveRoom, HoldBounds}
use Rattle.hints.proofs.many.halve.Given as goal

-- the places before `lane` are halved, and those from there on stand as they were
abbrev pub invariant-loop-lane : goal.invariant-loop-lane
invariant-loop-lane g l = record {
  same : IsSameOutside l.first l.lane l.fn.places l.places;
  open_places : HaveRoom l.keys l.places l.first l.lane (l.left - l.left / 2);
  near : IsNonDecreasing l.keys → HoldBounds l.keys l.questions l.fn.places l.first l.end l.left →
      HoldBounds l.keys l.questions l.places l.first l.lane (l.left - l.left / 2);
  taken : l.steps ≡ l.fn.steps + (l.lane - l.first);
}
