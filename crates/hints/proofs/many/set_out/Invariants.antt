use Rattle.hints.specs.Lookups.{IsSameOutside}
use Rattle.hints.specs.Many.{AreSetOut}
use Rattle.hints.proofs.many.set_out.Given as goal

abbrev pub invariant-loop-lane : goal.invariant-loop-lane
invariant-loop-lane l = record {
  same : IsSameOutside l.first l.lane l.fn.places l.places;
  each : AreSetOut l.fn.places l.places l.first l.lane l.back l.last;
}
