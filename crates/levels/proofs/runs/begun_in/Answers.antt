-- The numbers that are left to halve lie between the two counts.
use Rattle.std.proofs.Common.{◌+◌, ◌-◌, ◌/◌, arith}
use Rattle.window_search.proofs.Halving.{halved_to}
use Rattle.levels.proofs.runs.begun_in.Goals as goal

pub loop-left-preserved : goal.loop-left-preserved
loop-left-preserved g c =
    let order = c.requires.order in
    let inv = c.loop-left.invariant in
    let middle = c.loop-left.begun + c.loop-left.left / 2 in
    record {
      within = omega (arith, inv.within);
      few = omega (arith, inv.few);
      before = inv.before;
      from = λ k past inside. omega (arith, c.read.ensures.key, c.if-read-q.false, order middle k 0 past inside);
      halved = rw c.read.ensures.cost
          (halved_to c.args.steps.now c.loop-left.steps (c.args.high - c.args.low + 1) (c.loop-left.left + 1)
          (c.loop-left.left / 2 + 1) (omega (arith, c.loop-left-test.true)) (omega arith) inv.halved);
    }

pub loop-left-preserved-then-read-q : goal.loop-left-preserved-then-read-q
loop-left-preserved-then-read-q g c =
    let order = c.requires.order in
    let inv = c.loop-left.invariant in
    let left = c.loop-left.left in
    let middle = c.loop-left.begun + left / 2 in
    record {
      within = omega (arith, inv.within, c.loop-left-test.true);
      few = omega (arith, inv.few, c.loop-left-test.true);
      before = λ k less. omega (
        arith,
        c.read.ensures.key,
        c.if-read-q.true,
        order k middle 0 (omega arith) (omega (arith, inv.within, c.loop-left-test.true)),
      );
      from = λ k past inside. inv.from k (omega (arith, c.loop-left-test.true)) inside;
      halved = rw c.read.ensures.cost
          (halved_to c.args.steps.now c.loop-left.steps
          (c.args.high - c.args.low + 1) (left + 1) (left - (left / 2 + 1) + 1)
          (omega (arith, c.loop-left-test.true)) (omega (arith, c.loop-left-test.true)) inv.halved);
    }
