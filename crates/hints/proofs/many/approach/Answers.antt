-- The places are set out, and halved once more.
use Rattle.std.proofs.Common.{length, arith}
use Rattle.hints.proofs.LookupLemmas.{same_twice}
use Rattle.hints.proofs.ManyLemmas.{set_room, set_near, AreHalved-none, AreHalved-more, AreHalved-end}
use Rattle.hints.proofs.many.approach.Goals as goal

pub loop-left-init : goal.loop-left-init
loop-left-init g c =
    let keys = c.args.keys.now in
    let width = c.args.width in
    let last = c.len.ensures in
    record {
      some = c.requires.some;
      same = c.set_out.ensures.same;
      open_places = λ k from to.
          set_room (length keys) width _ _ _ last c.requires.some c.requires.within (c.set_out.ensures.back k from to);
      near = λ order near k from to. set_near keys _ width _ _ _ order last c.requires.some c.requires.within
          (c.set_out.ensures.back k from to) (near k from to);
      halved = AreHalved-none _ _ width c.requires.some;
    }

pub loop-left-preserved : goal.loop-left-preserved
loop-left-preserved g c =
    let inv = c.loop-left.invariant in
    record {
      some = omega arith;
      same = same_twice _ _ _ _ _ inv.same c.halve.ensures.same;
      open_places = c.halve.ensures.open;
      near = λ order near. c.halve.ensures.near order (inv.near order near);
      halved = AreHalved-more _ _ _ _ c.args.width c.loop-left.left (omega arith) c.halve.ensures.cost inv.halved;
    }

pub returns-clause-cost : goal.returns-clause-cost
returns-clause-cost g c = AreHalved-end _ _ _ _ _ c.loop-left.invariant.halved
