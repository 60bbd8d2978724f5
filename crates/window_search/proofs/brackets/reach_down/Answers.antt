-- A key that is read ends the search downwards, or leads it further.
use Rattle.std.proofs.Common.{◌≡◌, ◌+◌, ◌-◌, ◌*◌, slice_index, ap, arith}
use Rattle.window_search.proofs.Reaching.{doubled_to, doubled_at_end, reached}
use Rattle.window_search.proofs.brackets.reach_down.Goals as goal

pub returns-then-read-q-clause-held : goal.returns-then-read-q-clause-held
returns-then-read-q-clause-held g c =
    let inv = c.loop-high.invariant in
    let high = c.loop-high.high in
    let place = high - (c.args.from - high) - 1 in
    let read : place + 1 - 1 ≡ place = omega arith in
    record {
      order = omega (arith, inv.within);
      within = omega (arith, inv.within, c.requires.inside);
      before = λ some. omega (arith, ap (slice_index c.args.keys.now) read, c.read.ensures.key);
      at = inv.at;
    }

pub returns-then-read-q-clause-reached : goal.returns-then-read-q-clause-reached
returns-then-read-q-clause-reached g c =
    let inv = c.loop-high.invariant in
    rw c.read.ensures.cost
    (reached (c.args.from - c.loop-high.high + 1) _ _ _ _ _
    (doubled_to _ _ _ inv.doubled) (omega (arith, inv.within)) (λ place from to. omega (arith, inv.within)))

pub returns-clause-reached : goal.returns-clause-reached
returns-clause-reached g c =
    let inv = c.loop-high.invariant in
    reached (c.args.from - c.loop-high.high + 1) _ _ _ _ _
    (doubled_at_end _ _ _ inv.doubled) (omega (arith, inv.within)) (λ place from to. omega (arith, inv.within))

pub loop-high-preserved : goal.loop-high-preserved
loop-high-preserved g c =
    let inv = c.loop-high.invariant in
    let high = c.loop-high.high in
    let next : c.args.from - (high - (c.args.from - high) - 1) + 1
    ≡ (c.args.from - high + 1) * 2 = omega (arith, inv.within) in
    record {
      within = omega (arith, inv.within);
      at = λ inside. omega (arith, c.read.ensures.key);
      doubled = rw (next, c.read.ensures.cost) (doubled_to _ _ _ inv.doubled);
    }
