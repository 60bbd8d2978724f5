-- Each value is at or after those before it, and below m where it isn't 0.
use Rattle.std.proofs.Common.{◌≡◌, ◌*◌, ◌/◌, ℕ, subst, arith}
use Rattle.piece_join.specs.Cuttings.{AreCutsAt, even_place}
use Rattle.piece_join.proofs.CutLemmas.{AreCutsAt-with_cut, length-with_cut, even-rises, even-below}
use Rattle.piece_join.proofs.cuttings.even_cuts.Goals as goal

pub loop-k-preserved : goal.loop-k-preserved
loop-k-preserved c =
    let m = c.args.m in
    let pieces = c.args.pieces.count in
    let k = c.loop-k.k in
    let items = c.loop-k.cuts.items in
    let inv = c.loop-k.invariant in
    let value : c.from.result * c.from-in-loop-k.result / c.from-in-loop-k-2.result ≡ even_place m pieces k = cc in
    record {
      places = rw (c.in_ok-add_cut.ensures, value)
          (AreCutsAt-with_cut m k
          (even_place m pieces) items (omega arith) (λ j below. even-rises m pieces j k (omega arith) (omega arith))
          (even-below m pieces k (omega arith)) inv.places);
      count =
          rw (c.in_ok-add_cut.ensures, value) (omega (arith, length-with_cut items (even_place m pieces k), inv.count));
    }

pub returns-clause-places : goal.returns-clause-places
returns-clause-places c =
    let at_end : c.loop-k.k ≡ c.args.pieces.count = omega (arith, c.loop-k.auto.k-end (omega arith)) in
    subst (λ (n : ℕ). AreCutsAt c.args.m n (even_place c.args.m c.args.pieces.count) c.loop-k.cuts.items)
    at_end c.loop-k.invariant.places
