-- It is a heap from a place on.
use Rattle.std.proofs.Common.{◌-◌, ◌/◌, length}
use Rattle.std.specs.List.Sorted.{IsPermutation}
use Rattle.neighbours.specs.Chosen.{IsHeap}
use Rattle.neighbours.proofs.heap.make_heap.Given as goal

abbrev pub invariant-loop-i : goal.invariant-loop-i
invariant-loop-i l = record {
  heap : IsHeap (length l.heap / 2 - l.i) l.heap;
  same : IsPermutation l.fn.heap l.heap;
}
