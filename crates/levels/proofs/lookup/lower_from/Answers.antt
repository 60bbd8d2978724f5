-- A key that is read says on which side of it the lower bound is.
use Rattle.std.proofs.Common.{◌-◌, ◌≤◌, arith}
use Rattle.window_search.specs.Searches.{lb}
use Rattle.window_search.proofs.LowerBounds.{lb_after, lb_not_after}
use Rattle.levels.proofs.lookup.lower_from.Goals as goal
use Rattle.levels.proofs.lookup.lower_from.Goals.{else-told-high-via-then-told-high+else-read-q}
use Rattle.levels.proofs.lookup.lower_from.Goals.{else-told-high-via-else-told-high}
use Rattle.levels.proofs.lookup.lower_from.Goals.{then-told-low-via-then-told-low}
use Rattle.levels.proofs.lookup.lower_from.Goals.{then-told-low-via-else-told-low+then-read-q-2}

pub lower_in-requires-clause-from : goal.lower_in-requires-clause-from
lower_in-requires-clause-from g c =
    let after = lb_after c.args.keys.now c.args.q c.args.told c.read.result
    c.requires.order (omega arith) c.read.ensures.key c.if-read-q.true in
    omega (arith, after)

pub returns-then-told-low : goal.returns-then-told-low
returns-then-told-low g c =
    let keys = c.args.keys.now in
    let not_after : lb keys c.args.q ≤ c.args.told = elim c.else-told-high.branch [
      | else-told-high-via-then-told-high+else-read-q w ↦
          lb_not_after keys c.args.q c.args.told w.read.result c.requires.order w.read.ensures.key (omega arith)
      | else-told-high-via-else-told-high w ↦ omega arith
    ] in
    let from : c.args.told ≤ lb keys c.args.q = elim c.then-told-low.branch [
      | then-told-low-via-then-told-low w ↦ omega arith
      | then-told-low-via-else-told-low+then-read-q-2 w ↦
          let after = lb_after keys c.args.q (c.args.told - 1) w.read-else-told-low.result
          c.requires.order (omega arith) w.read-else-told-low.ensures.key w.if-read-q-2.true in
          omega (arith, after)
    ] in
    omega (arith, not_after, from)

pub lower_in-requires-2-clause-to : goal.lower_in-requires-2-clause-to
lower_in-requires-2-clause-to g c =
    lb_not_after c.args.keys.now c.args.q (c.args.told - 1) c.read-else-told-low.result
    c.requires.order c.read-else-told-low.ensures.key (omega arith)
