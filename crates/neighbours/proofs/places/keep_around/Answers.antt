-- The places before the first and behind the last have nothing to add.
use Rattle.std.proofs.Common.{subst, arith}
use Rattle.std.specs.List.{slice_range}
use Rattle.std.specs.List.Sorted.{IsPermutation}
use Rattle.neighbours.specs.Metrics.{AreInOrder, far}
use Rattle.neighbours.specs.Neighbours.{neighbours_from}
use Rattle.neighbours.proofs.KeptLemmas.{Places, kept_if}
use Rattle.neighbours.proofs.PartsLemmas.{chosen_of_parts, in_order_range}
use Rattle.neighbours.proofs.places.keep_around.Goals as goal

pub returns : goal.returns
returns g c =
    let d = c.args.centre.now.d in
    let by = far g.M.Metric.step d c.args.centre.now.coords in
    let codes = c.args.codes.now in
    let P = AreInOrder d codes in
    let from = c.args.from in
    let to = c.args.to in
    let first = c.min-first.result in
    let last = c.max-last.result in
    let start = c.make_heap.new.heap in
    let mid = c.keep_nearest.new.kept in
    let new = c.keep_nearest-2.new.kept in
    record {
      chosen = chosen_of_parts by P codes first from to last (omega (arith, c.min-first.ensures)) (omega arith)
          (omega (arith, c.max-last.ensures))
          (omega (arith, c.max-last.ensures, c.places_within-places.ensures.within)) start mid new
          (subst (λ (list : Places). IsPermutation list start) c.requires.kept c.make_heap.ensures.same)
          c.make_heap.ensures.heap
          (λ are k less. c.places_within-places.ensures.before are k (omega (arith, c.min-first.ensures)))
          (λ are k more within. c.places_within-places.ensures.behind are k (omega (arith, c.max-last.ensures)) within)
          (kept_if (AreInOrder d (slice_range codes first from)) P start
          (neighbours_from by first (slice_range codes first from))
          mid (in_order_range d first from codes) c.keep_nearest.ensures.kept)
          (kept_if (AreInOrder d (slice_range codes to last)) P mid (neighbours_from by to (slice_range codes to last))
          new (in_order_range d to last codes) c.keep_nearest-2.ensures.kept);
    }
