use Rattle.std.proofs.Common.{◌-◌, ◌≤◌}
use Rattle.std.specs.List.Sorted.{IsNonDecreasing}
use Rattle.hints.specs.Lookups.{IsSameOutside}
use Rattle.hints.specs.Many.{AreNear, HaveRoom, HoldBounds}
use Rattle.hints.proofs.ManyLemmas.{AreHalved}
use Rattle.hints.proofs.many.approach.Given as goal

-- so many places are left of each question, and nothing outside is written
abbrev pub invariant-loop-left : goal.invariant-loop-left
invariant-loop-left g l = record {
  some : 1 ≤ l.left;
  same : IsSameOutside l.first l.end l.fn.places l.places;
  open_places : HaveRoom l.keys l.places l.first l.end l.left;
  near : IsNonDecreasing l.keys → AreNear l.keys l.questions l.fn.places l.first l.end l.width →
      HoldBounds l.keys l.questions l.places l.first l.end l.left;
  halved : AreHalved (l.end - l.first) l.fn.steps l.steps l.width l.left;
}

abbrev pub decreases-loop-left : goal.decreases-loop-left
decreases-loop-left g l = l.left
