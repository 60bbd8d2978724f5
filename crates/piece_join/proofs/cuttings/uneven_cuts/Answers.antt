-- Each value is at or after those before it, and below m where it isn't 0.
use Rattle.std.proofs.Common.{◌≡◌, ◌*◌, ◌/◌, ℕ, subst, arith}
use Rattle.piece_join.specs.Cuttings.{AreCutsAt, uneven_place}
use Rattle.piece_join.proofs.CutLemmas.{AreCutsAt-with_cut, length-with_cut, uneven-rises, uneven-below, uneven-within}
use Rattle.piece_join.proofs.cuttings.uneven_cuts.Goals as goal

pub overflow_cast-place : goal.overflow_cast-place
overflow_cast-place c =
    let value : c.from-in-loop-k.result * c.from-in-loop-k-2.result * c.from-in-loop-k-3.result
    / (c.from.result * c.from-2.result) ≡ uneven_place c.args.m (8 * c.args.workers.count) c.loop-k.k = cc in
    omega (arith, value, uneven-within c.args.m (8 * c.args.workers.count) c.loop-k.k (omega arith), c.ranges.m.fits)

pub loop-k-preserved : goal.loop-k-preserved
loop-k-preserved c =
    let m = c.args.m in
    let pieces = 8 * c.args.workers.count in
    let k = c.loop-k.k in
    let items = c.loop-k.cuts.items in
    let inv = c.loop-k.invariant in
    let value : c.from-in-loop-k.result * c.from-in-loop-k-2.result
    * c.from-in-loop-k-3.result / (c.from.result * c.from-2.result) ≡ uneven_place m pieces k = cc in
    record {
      places = rw (c.in_ok-add_cut.ensures, value)
          (AreCutsAt-with_cut m k (uneven_place m pieces) items
          (omega arith) (λ j below. uneven-rises m pieces j k (omega arith) (omega arith))
          (uneven-below m pieces k (omega arith)) inv.places);
      count = rw
          (c.in_ok-add_cut.ensures, value) (omega (arith, length-with_cut items (uneven_place m pieces k), inv.count));
    }

pub returns-clause-places : goal.returns-clause-places
returns-clause-places c =
    let pieces = 8 * c.args.workers.count in
    let at_end : c.loop-k.k ≡ pieces = omega (arith, c.loop-k.auto.k-end (omega arith)) in
    subst (λ (n : ℕ). AreCutsAt c.args.m n (uneven_place c.args.m pieces) c.loop-k.cuts.items)
    at_end c.loop-k.invariant.places
