-- A block more.
use Rattle.std.proofs.Common.{arith}
use Rattle.window_search.specs.Searches.{lb}
use Rattle.key_search.proofs.LaneLemmas.{split_more, split_left}
use Rattle.key_search.proofs.among.positions_among.Goals as goal

pub loop-sorted-preserved : goal.loop-sorted-preserved
loop-sorted-preserved c =
    let f = lb c.args.keys.now in
    let inv = c.loop-sorted.invariant in
    let rest = c.loop-sorted.rest.now in
    let split = c.split_at in
    let pushed = c.push_bounds in
    record {
      before = split_more f c.min.result c.args.qs.now rest _ _ c.args.into.now.items
          c.loop-sorted.into.items _ split.ensures.front split.ensures.back pushed.ensures.positions inv.before;
      room = omega (
        arith,
        inv.room,
        pushed.ensures.capacity,
        c.loop-sorted.into.ok.0,
        pushed.new.into.ok.0,
        split_left f c.min.result
            rest _ _ c.loop-sorted.into.items _ split.ensures.front split.ensures.back pushed.ensures.positions,
      );
      capacity = omega (arith, inv.capacity, pushed.ensures.capacity);
    }
