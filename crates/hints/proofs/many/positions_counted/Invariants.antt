use Rattle.std.proofs.Common.{◌+◌, ◌-◌, ◌≤◌, length, slice_index}
use Rattle.std.specs.List.Sorted.{IsNonDecreasing}
use Rattle.hints.specs.Lookups.{ArePositions, IsSameOutside, LeadsWithin, ReadsEachWithin}
use Rattle.hints.proofs.many.positions_counted.Given as goal

-- the places before `first` are found, and nothing from there on is written
abbrev pub invariant-loop-first : goal.invariant-loop-first
invariant-loop-first g l = record {
  within : l.first ≤ l.count;
  found : ArePositions l.keys l.questions l.places l.first;
  same : IsSameOutside 0 l.first l.fn.places l.places;
  worst : ReadsEachWithin 16 (length l.keys) l.first l.fn.steps l.steps;
  near : IsNonDecreasing l.keys → LeadsWithin l.hints l.keys (slice_index l.hints 1 + 2) →
      ReadsEachWithin 16 (slice_index l.hints 1 + 2) l.first l.fn.steps l.steps;
}

abbrev pub decreases-loop-first : goal.decreases-loop-first
decreases-loop-first g l = l.count - l.first
