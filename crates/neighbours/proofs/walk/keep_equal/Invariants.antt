-- The nearest of the places kept and those of the codes so far.
use Rattle.std.proofs.Common.{take}
use Rattle.neighbours.specs.Chosen.{AreStillKept, IsHeap}
use Rattle.neighbours.specs.Metrics.{AreInOrder, far}
use Rattle.neighbours.specs.Neighbours.{neighbours_from}
use Rattle.neighbours.proofs.walk.keep_equal.Given as goal

abbrev pub invariant-loop-i : goal.invariant-loop-i
invariant-loop-i g l = record {
  kept : AreStillKept (AreInOrder l.centre.d l.codes) l.fn.kept
      (neighbours_from (far g.M.Metric.step l.centre.d l.centre.coords) l.first (take l.i l.codes)) l.kept;
  heap : IsHeap 0 l.kept;
}
