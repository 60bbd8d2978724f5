-- A key that is read says on which side of it the lower bound is.
use Rattle.std.proofs.Common.{◌≡◌, ◌+◌, ◌-◌, ◌/◌, slice_index, arith}
use Rattle.window_search.proofs.Halving.{halved_to}
use Rattle.window_search.proofs.LowerBounds.{lb_after, lb_not_after}
use Rattle.window_search.proofs.searches.lower_in.Goals as goal

pub loop-count-preserved-then-read-q : goal.loop-count-preserved-then-read-q
loop-count-preserved-then-read-q g c =
    let inv = c.loop-count.invariant in
    let keys = c.args.keys.now in
    let n = c.loop-count.count in
    let middle = c.loop-count.bound + n / 2 - 1 in
    let read : c.read.result ≡ slice_index keys middle = c.read.ensures.key in
    let after = lb_after keys c.args.q middle c.read.result c.requires.order (omega arith) read c.if-read-q.true in
    record {
      some = omega arith;
      within = omega (arith, inv.within);
      first = omega (arith, inv.first);
      from = omega arith;
      to = omega (arith, inv.to);
      halved = rw c.read.ensures.cost (halved_to _ _ _ n (n - n / 2) c.loop-count-test.true (omega arith) inv.halved);
    }

pub loop-count-preserved : goal.loop-count-preserved
loop-count-preserved g c =
    let inv = c.loop-count.invariant in
    let keys = c.args.keys.now in
    let n = c.loop-count.count in
    let middle = c.loop-count.bound + n / 2 - 1 in
    let read : c.read.result ≡ slice_index keys middle = c.read.ensures.key in
    let before = lb_not_after keys c.args.q middle c.read.result c.requires.order read c.if-read-q.false in
    record {
      some = omega arith;
      within = omega (arith, inv.within);
      first = omega (arith, inv.first);
      from = omega (arith, inv.from);
      to = omega arith;
      halved = rw c.read.ensures.cost (halved_to _ _ _ n (n / 2) c.loop-count-test.true (omega arith) inv.halved);
    }
