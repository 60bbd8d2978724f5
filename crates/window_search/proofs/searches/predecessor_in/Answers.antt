-- A key that is read says on which side of it the predecessor is.
use Rattle.std.proofs.Common.{◌≡◌, ◌+◌, ◌-◌, ◌/◌, slice_index, arith}
use Rattle.window_search.proofs.Halving.{halved_to}
use Rattle.window_search.proofs.LowerBounds.{predecessor_from, predecessor_before}
use Rattle.window_search.proofs.searches.predecessor_in.Goals as goal

pub loop-count-preserved-then-read-q : goal.loop-count-preserved-then-read-q
loop-count-preserved-then-read-q g c =
    let inv = c.loop-count.invariant in
    let keys = c.args.keys.now in
    let n = c.loop-count.count in
    let middle = c.loop-count.base + n / 2 in
    let read : c.read.result ≡ slice_index keys middle = c.read.ensures.key in
    record {
      some = omega arith;
      within = omega (arith, inv.within);
      first = omega (arith, inv.first);
      found = λ place here.
          let from =
          predecessor_from keys c.args.q middle c.read.result place (omega arith) read c.if-read-q.true here in
          (omega arith, omega (arith, (inv.found place here).1));
      halved = rw c.read.ensures.cost (halved_to _ _ _ n (n - n / 2) c.loop-count-test.true (omega arith) inv.halved);
    }

pub loop-count-preserved : goal.loop-count-preserved
loop-count-preserved g c =
    let inv = c.loop-count.invariant in
    let keys = c.args.keys.now in
    let n = c.loop-count.count in
    let middle = c.loop-count.base + n / 2 in
    let read : c.read.result ≡ slice_index keys middle = c.read.ensures.key in
    record {
      some = omega arith;
      within = omega (arith, inv.within);
      first = omega (arith, inv.first);
      found = λ place here.
          let before = predecessor_before
          keys c.args.q middle c.read.result place c.requires.order read c.if-read-q.false here in
          (omega (arith, (inv.found place here).0), omega arith);
      halved = rw c.read.ensures.cost (halved_to _ _ _ n (n / 2) c.loop-count-test.true (omega arith) inv.halved);
    }
