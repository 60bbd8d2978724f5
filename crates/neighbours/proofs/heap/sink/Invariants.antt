-- The pair sinks.
use Rattle.std.proofs.Common.{◌≡◌, ◌-◌, ◌≤◌, length}
use Rattle.std.specs.List.Sorted.{IsPermutation}
use Rattle.neighbours.proofs.HeapLemmas.{IsSinking}
use Rattle.neighbours.proofs.heap.sink.Given as goal

abbrev pub invariant-loop-at : goal.invariant-loop-at
invariant-loop-at l = record {
  long : length l.heap ≡ length l.fn.heap;
  low : l.from ≤ l.at;
  same : IsPermutation l.fn.heap l.heap;
  sinks : IsSinking l.from l.at l.heap;
}

abbrev pub decreases-loop-at : goal.decreases-loop-at
decreases-loop-at l = length l.heap - l.at
