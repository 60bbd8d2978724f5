-- The places so far are written.
use Rattle.std.proofs.Common.{◌≡◌, ℕ, ◌+◌, ◌<◌, length, get_or}
use Rattle.neighbours.specs.Metrics.{far}
use Rattle.neighbours.specs.Neighbours.{neighbour_at}
use Rattle.neighbours.proofs.places.write_places.Given as goal

abbrev pub invariant-loop-i : goal.invariant-loop-i
invariant-loop-i g l = record {
  long : length l.places ≡ length l.codes;
  each : (k : ℕ) → k < l.i → get_or l.places k (neighbour_at 0 0)
      ≡ neighbour_at (far g.M.Metric.step l.centre.d l.centre.coords (get_or l.codes k 0)) (l.first + k);
}
