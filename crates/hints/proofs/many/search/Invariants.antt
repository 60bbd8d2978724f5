use Rattle.std.proofs.Common.{ℕ, ◌+◌, ◌-◌, ◌*◌, ◌<◌, ◌≤◌, length, slice_index}
use Rattle.std.specs.List.Sorted.{IsNonDecreasing}
use Rattle.hints.specs.Lookups.{IsPosition, IsSameOutside, TakesEach}
use Rattle.hints.specs.Many.{HoldBounds}
use Rattle.hints.proofs.many.search.Given as goal

-- the places before `lane` are found, and those from there on stand as they were
abbrev pub invariant-loop-lane : goal.invariant-loop-lane
invariant-loop-lane g l = record {
  same : IsSameOutside l.first l.lane l.fn.places l.places;
  found : (k : ℕ) → l.first ≤ k → k < l.lane → IsPosition l.keys (slice_index l.questions k) (slice_index l.places k);
  worst : TakesEach (8 * (length l.keys + 1)) (l.lane - l.first) l.fn.steps l.steps;
  near : IsNonDecreasing l.keys →
      HoldBounds l.keys l.questions l.fn.places l.first l.end 1 → TakesEach 4 (l.lane - l.first) l.fn.steps l.steps;
}
