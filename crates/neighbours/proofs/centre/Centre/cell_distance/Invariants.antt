-- No code between the two is nearer by the coordinates so far.
use Rattle.std.proofs.Common.{ℕ, ◌*◌, ◌^◌, ◌≤◌}
use Rattle.zorder.specs.Codes.{IsCode}
use Rattle.neighbours.specs.Around.{apart}
use Rattle.neighbours.specs.Metrics.{code_in, through}
use Rattle.neighbours.proofs.centre.Centre.cell_distance.Given as goal

abbrev pub invariant-loop-c : goal.invariant-loop-c
invariant-loop-c g l = record {
  near : (z : ℕ) → IsCode l.self.d l.first → IsCode l.self.d z → l.first ≤ z → z ≤ l.last →
      l.far ≤ through g.M.Metric.step (apart l.self.d l.self.coords (code_in l.self.d z)) l.c;
  small : l.far ≤ l.c * 2 ^ 64;
}
