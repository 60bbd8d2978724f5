-- What the coordinates so far come to.
use Rattle.std.proofs.Common.{◌≡◌, ◌*◌, ◌^◌, ◌≤◌}
use Rattle.neighbours.specs.Around.{apart}
use Rattle.neighbours.specs.Metrics.{code_in, through}
use Rattle.neighbours.proofs.centre.Centre.distance.Given as goal

abbrev pub invariant-loop-c : goal.invariant-loop-c
invariant-loop-c g l = record {
  so_far : l.far ≡ through g.M.Metric.step (apart l.self.d l.self.coords (code_in l.self.d l.z)) l.c;
  small : l.far ≤ l.c * 2 ^ 64;
}
