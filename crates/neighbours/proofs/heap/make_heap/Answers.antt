use Rattle.std.proofs.Common.{arith}
use Rattle.std.proofs.lemmas.List.Sorted.{IsPermutation-trans}
use Rattle.neighbours.proofs.heap.make_heap.Goals as goal

pub loop-i-preserved : goal.loop-i-preserved
loop-i-preserved c = record {
  heap = λ p k low left right within. c.sink.ensures.heap p k (omega arith) left right within;
  same =
      IsPermutation-trans c.args.heap.now c.loop-i.heap c.sink.new.heap c.loop-i.invariant.same c.sink.ensures.same;
}
