-- A key that is read ends the search upwards, or leads it further.
use Rattle.std.proofs.Common.{◌≡◌, ◌+◌, ◌-◌, ◌*◌, slice_index, ap, arith}
use Rattle.window_search.proofs.Reaching.{doubled_to, doubled_at_end, reached}
use Rattle.window_search.proofs.brackets.reach_up.Goals as goal

pub returns-then-read-q-clause-held : goal.returns-then-read-q-clause-held
returns-then-read-q-clause-held g c =
    let inv = c.loop-low.invariant in
    record {
      order = omega (arith, inv.behind);
      within = omega (arith, inv.behind);
      before = λ some. inv.before;
      at = λ inside. omega (arith, c.read.ensures.key);
    }

pub returns-then-read-q-clause-reached : goal.returns-then-read-q-clause-reached
returns-then-read-q-clause-reached g c =
    let inv = c.loop-low.invariant in
    rw c.read.ensures.cost
    (reached (c.loop-low.low - c.args.from) _ _ _ _ _
    (doubled_to _ _ _ inv.doubled) (omega (arith, inv.behind)) (λ place from to. omega (arith, inv.behind)))

pub returns-clause-reached : goal.returns-clause-reached
returns-clause-reached g c =
    let inv = c.loop-low.invariant in
    reached (c.loop-low.low - c.args.from) _ _ _ _ _
    (doubled_at_end _ _ _ inv.doubled) (omega (arith, inv.behind)) (λ place from to. omega (arith, inv.behind))

pub loop-low-preserved : goal.loop-low-preserved
loop-low-preserved g c =
    let inv = c.loop-low.invariant in
    let low = c.loop-low.low in
    let place = low + (low - c.args.from - 1) in
    let read : place + 1 - 1 ≡ place = omega arith in
    let next : place + 1 - c.args.from ≡ (low - c.args.from) * 2 = omega (arith, inv.behind) in
    record {
      count = inv.count;
      behind = omega (arith, inv.behind);
      within = omega (arith, inv.behind);
      before = omega (arith, ap (slice_index c.args.keys.now) read, c.read.ensures.key);
      doubled = rw (next, c.read.ensures.cost) (doubled_to _ _ _ inv.doubled);
    }
