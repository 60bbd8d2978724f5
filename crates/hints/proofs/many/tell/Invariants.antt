use Rattle.hints.specs.Lookups.{IsSameOutside}
use Rattle.hints.specs.Many.{AreTold}
use Rattle.hints.proofs.many.tell.Given as goal

abbrev pub invariant-loop-lane : goal.invariant-loop-lane
invariant-loop-lane l = record {
  same : IsSameOutside l.first l.lane l.fn.places l.places;
  each : AreTold l.hints l.n l.questions l.places l.first l.lane;
}
