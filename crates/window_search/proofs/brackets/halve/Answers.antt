-- A key that is read says on which side of it a bracket is.
use Rattle.std.proofs.Common.{◌≡◌, ◌+◌, ◌-◌, ◌/◌, slice_index, ap, arith}
use Rattle.window_search.proofs.Halving.{halved_to}
use Rattle.window_search.proofs.brackets.halve.Goals as goal

pub loop-more-preserved-then-read-q : goal.loop-more-preserved-then-read-q
loop-more-preserved-then-read-q g c =
    let inv = c.loop-more.invariant in
    let place = c.loop-more.place in
    let more = c.loop-more.more in
    let end : place + (more / 2 + 1) + (more - (more / 2 + 1)) ≡ place + more = omega arith in
    let read : place + (more / 2 + 1) - 1 ≡ place + more / 2 = omega arith in
    record {
      from = omega (arith, inv.from);
      to = omega (arith, inv.to);
      held = record {
        order = omega arith;
        within = omega (arith, inv.held.within);
        before = λ some. omega (arith, ap (slice_index c.args.keys.now) read, c.read.ensures.key);
        at = rw end inv.held.at;
      };
      halved = rw c.read.ensures.cost
          (halved_to c.args.steps.now c.loop-more.steps (c.args.high - c.args.low + 1)
          (more + 1) (more - (more / 2 + 1) + 1) (omega arith) (omega arith) inv.halved);
    }

pub loop-more-preserved : goal.loop-more-preserved
loop-more-preserved g c =
    let inv = c.loop-more.invariant in
    let more = c.loop-more.more in
    record {
      from = inv.from;
      to = omega (arith, inv.to);
      held = record {
        order = omega arith;
        within = omega (arith, inv.held.within);
        before = inv.held.before;
        at = λ inside. omega (arith, c.read.ensures.key);
      };
      halved = rw c.read.ensures.cost
          (halved_to c.args.steps.now c.loop-more.steps
          (c.args.high - c.args.low + 1) (more + 1) (more / 2 + 1) (omega arith) (omega arith) inv.halved);
    }
