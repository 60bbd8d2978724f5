use Rattle.std.proofs.Common.{◌∙◌, arith}
use Rattle.std.proofs.lemmas.List.Edits.{swapped_from_swap}
use Rattle.std.proofs.lemmas.List.Sorted.{IsPermutation-trans}
use Rattle.neighbours.specs.Neighbours.{neighbour_at}
use Rattle.neighbours.proofs.HeapLemmas.{sinks_on}
use Rattle.neighbours.proofs.heap.sink.Goals as goal

pub loop-at-preserved : goal.loop-at-preserved
loop-at-preserved c =
    let heap = c.loop-at.heap in
    let at = c.loop-at.at in
    let child = c.later_child-child.result in
    let says = c.later_child-child.ensures in
    let before = c.stands_before.ensures.0 c.if-not-stands_before.false in
    record {
      long = c.swap.ensures.len ∙ c.loop-at.invariant.long;
      low = omega (arith, c.loop-at.invariant.low, says.from);
      same =
          IsPermutation-trans c.args.heap.now heap c.swap.new.self c.loop-at.invariant.same c.swap.ensures.permutation;
      sinks = sinks_on c.args.from at heap c.loop-at.invariant.sinks
          child says.from says.to says.within says.later before c.loop-at.invariant.low c.swap.new.self
          c.swap.ensures.len
          (swapped_from_swap heap c.swap.new.self at child
          (neighbour_at 0 0) (omega arith) says.within c.swap.ensures.after);
    }
